-- Where instructions of the code stand: below offset 65536, in the whole code as well as in what lies below its end.
use Rattle.std.proofs.Common.{◌≡◌, ℕ, zero, suc, ◌+◌, ◌-◌, ◌*◌, ◌<◌, ◌≤◌, List, [], ◌∷◌, take, drop, All, Some, sym, ap, ◌∙◌, subst, arith}
use Rattle.std.proofs.lemmas.List.{length-drop, length-take, drop-take, take-take, get_or-drop}
use Rattle.dcc_machine.specs.declared.image.Image.{Image}
use Rattle.dcc_prog.specs.declared.procedure.Layout.{Layout}
use Rattle.dcc_machine.specs.declared.instr.Instr.{Instr}
use Rattle.dcc_machine.specs.MzImage.{IsLoaded}
use Rattle.dcc_machine.specs.Bytes.{byte_at}
use Rattle.dcc_machine.specs.Load.{load_segment}
use Rattle.dcc_machine.specs.Code.{code_of}
use Rattle.dcc_machine.specs.Table.{instruction_at}
use Rattle.dcc_prog.specs.Trail.{code_within, instruction_in}
use Rattle.dcc_machine.proofs.TableLaws.{instruction-length, instruction-prefix}
use Rattle.dcc_machine.proofs.MzImageLaws.{All-loaded}
use Rattle.dcc_machine.proofs.FetchLaws.{IsPlaced, image-placed, length-code_of}
use Rattle.dcc_machine.proofs.WellFormedLaws.{AreBytes}

-- the image of a file lies where it is loaded
pub loaded-placed : (image : Image) → IsLoaded image → IsPlaced image
loaded-placed image loaded = image-placed loaded.file image loaded.is_image

-- Bounds.

-- an instruction of the code ends at offset 65536 or before
pub instruction-below : (image : Image) (layout : Layout) (at : ℕ) (instr : Instr) → IsPlaced image
    → instruction_in image layout at ≡ Some instr
    → (0 < instr.len) × (at + instr.len ≤ 65536)
instruction-below image layout at instr placed found =
    let code = code_of image in
    let e : ℕ = layout.code_end in
    let bounds = instruction-length layout.cpu at (drop at (take e code)) instr found in
    let len = length-drop at (take e code) in
    let cut = length-take e code in
    let whole = length-code_of image placed in
    (bounds.0, omega (arith, bounds.0, bounds.1, len, cut, whole, placed.short))

-- an instruction of the whole code that ends at the code's end or before stands in the code
pub instruction-within : (image : Image) (layout : Layout) (at : ℕ) (instr : Instr)
    → instruction_at layout.cpu at (drop at (code_of image)) ≡ Some instr
    → at + instr.len ≤ layout.code_end → instruction_in image layout at ≡ Some instr
instruction-within image layout at instr found within =
    let code = code_of image in
    let e : ℕ = layout.code_end in
    let more : ℕ = e - at in
    let whole : e ≡ at + more = omega (arith, within) in
    let cut : drop at (take e code) ≡ take more (drop at code) = ap (λ n. drop at (take n code)) whole
    ∙ drop-take at more code in
    let same : take instr.len (drop at (take e code)) ≡ take instr.len (drop at code) =
    ap (take instr.len) cut ∙ take-take instr.len more (drop at code) (omega (arith, within)) in
    instruction-prefix layout.cpu at (drop at code) (drop at (take e code)) instr found same

-- Bytes.

pub bytes-taken : (n : ℕ) (xs : List ℕ) → AreBytes xs → (i : ℕ) → byte_at (take n xs) i < 256
bytes-taken zero xs bytes i = omega arith
bytes-taken (suc n) [] bytes i = omega arith
bytes-taken (suc n) (x ∷ xs) bytes zero = bytes 0
bytes-taken (suc n) (x ∷ xs) bytes (suc i) = bytes-taken n xs (λ k. bytes (suc k)) i

pub bytes-dropped : (n : ℕ) (xs : List ℕ) → AreBytes xs → AreBytes (drop n xs)
bytes-dropped n xs bytes = λ i. subst (λ b. b < 256) (sym (get_or-drop n xs i 0)) (bytes (n + i))

-- the code of an image of bytes has bytes
pub whole-bytes : (image : Image) → AreBytes image.bytes.items → AreBytes (code_of image)
unfolding code_of
whole-bytes image bytes =
    let skipped = (image.cs - load_segment) * 16 in
    bytes-taken image.code_len (drop skipped image.bytes.items) (bytes-dropped skipped image.bytes.items bytes)

pub code-bytes : (image : Image) (layout : Layout) → AreBytes image.bytes.items → AreBytes (code_within image layout)
code-bytes image layout bytes = bytes-taken layout.code_end (code_of image) (whole-bytes image bytes)

bytes-of : (xs : List ℕ) → All (λ b. b < 256) xs → (i : ℕ) → byte_at xs i < 256
bytes-of [] all i = omega arith
bytes-of (x ∷ xs) all zero = all 0 0 (omega arith)
bytes-of (x ∷ xs) all (suc i) = bytes-of xs (λ k d inside. all (suc k) d (omega arith)) i

pub loaded-bytes : (image : Image) → IsLoaded image → AreBytes image.bytes.items
loaded-bytes image loaded = bytes-of image.bytes.items (All-loaded image loaded)
