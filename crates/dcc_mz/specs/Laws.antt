-- Laws on images and first faults, for every list of bytes.
use Rattle.std.specs.Prelude.{◌≡◌, ℕ, List, ◌⊎◌}
use Rattle.dcc_machine.specs.declared.image.Image.{Image}
use Rattle.dcc_machine.specs.MzImage.{FormatFault, IsFirstFault, IsImageOf}

-- two images have the same bytes and the same numbers
pub record IsSameImage (one other : Image) : Type 0 where
  pub bytes : one.bytes.items ≡ other.bytes.items
  pub code_len : one.code_len ≡ other.code_len
  pub cs : one.cs ≡ other.cs
  pub ip : one.ip ≡ other.ip
  pub ss : one.ss ≡ other.ss
  pub sp : one.sp ≡ other.sp

-- each file has one image or one first fault, and not both
pub record HasOneAnswer : Type 0 where
  pub image_or_fault : (file : List ℕ)
      → ((image : Image) × IsImageOf file image) ⊎ ((fault : FormatFault) × IsFirstFault file fault)
  pub one_image : (file : List ℕ) (one other : Image)
      → IsImageOf file one → IsImageOf file other → IsSameImage one other
  pub one_fault : (file : List ℕ) (one other : FormatFault)
      → IsFirstFault file one → IsFirstFault file other → one ≡ other
  pub not_both : (file : List ℕ) (image : Image) (fault : FormatFault)
      → IsImageOf file image → ¬ IsFirstFault file fault
