-- The code of an image, and the machine that holds it.
use Rattle.std.specs.Prelude.{◌≡◌, ℕ, ◌-◌, ◌*◌, ◌<◌, List, take, drop}
use Rattle.dcc_machine.specs.declared.image.Image.{Image}
use Rattle.dcc_machine.specs.Bytes.{byte_at}
use Rattle.dcc_machine.specs.Load.{load_segment}
use Rattle.dcc_machine.specs.Machine.{State, code_segment, byte_in}

-- the bytes of the image from offset 0 of its code segment on, below offset 65536
unfoldable pub code_of : Image → List ℕ
code_of image = take image.code_len (drop ((image.cs - load_segment) * 16) image.bytes.items)

-- the code segment is the image's, and at each offset below this end it holds the byte of the image's code
pub record HoldsCode (image : Image) (end : ℕ) (s : State) : Type 0 where
  pub segment : code_segment s ≡ image.cs
  pub bytes : (at : ℕ) → at < end → byte_in s image.cs at ≡ byte_at (code_of image) at
