-- The displacement of a LEA in the code is a word.
use Rattle.std.proofs.Common.{◌≡◌, ℕ, zero, suc, ◌-◌, ◌*◌, ◌<◌, Bool, true, false, List, [], ◌∷◌, length, map, drop, replicate, All, Some, refl, sym, ap, ◌∙◌, subst, arith}
use Rattle.std.proofs.lemmas.List.Elements.{All-take, All-drop}
use Rattle.std.specs.Prelude.{slice_get, if◌then◌else◌, ◌==◌, ◌||◌}
use Rattle.dcc_num.specs.declared.Width.TheVariants.{Byte as byte_width, Word as word_width}
use Rattle.dcc_num.specs.Numbers.{signed_of, sign_extension_of}
use Rattle.dcc_num.proofs.Differences.{wrapped_below}
use Rattle.dcc_machine.specs.declared.cpu.Cpu.{Cpu}
use Rattle.dcc_machine.specs.declared.cpu.Cpu.TheVariants.{I8086, I186}
use Rattle.dcc_machine.specs.declared.image.Image.{Image}
use Rattle.dcc_prog.specs.declared.procedure.Layout.{Layout}
use Rattle.dcc_machine.specs.declared.instr.Op.{Op}
use Rattle.dcc_machine.specs.declared.instr.Op.TheVariants.{Lea}
use Rattle.dcc_machine.specs.declared.instr.Instr.{Instr}
use Rattle.dcc_machine.specs.Bytes.{byte_at}
use Rattle.dcc_machine.specs.Load.{load_segment}
use Rattle.dcc_machine.specs.MzImage.{IsLoaded}
use Rattle.dcc_machine.specs.Code.{code_of}
use Rattle.dcc_machine.specs.Operands.{mod_field, has_direct_address, displacement_at}
use Rattle.dcc_machine.specs.Table.{Row, Parts, row_parts, row_instruction, table, instruction_at}
use Rattle.dcc_prog.specs.Trail.{code_within, instruction_in}
use Rattle.dcc_machine.proofs.TableLaws.{instruction-row}
use Rattle.dcc_machine.proofs.MzImageLaws.{All-loaded, word_at-lt}

abbrev IsByte : ℕ → Type 0
IsByte b = b < 256

-- The code has bytes.

pub code-bytes : (image : Image) (layout : Layout) → IsLoaded image → All (λ b. b < 256) (code_within image layout)
unfolding code_of
code-bytes image layout loaded =
    All-take IsByte layout.code_end _
    (All-take IsByte image.code_len _
    (All-drop IsByte ((image.cs - load_segment) * 16) image.bytes.items (All-loaded image loaded)))

-- Displacements.

chosen-below : (b : Bool) (x y n : ℕ) → x < n → y < n → (if b then x else y) < n
chosen-below true x y n p q = p
chosen-below false x y n p q = q

extended-below : (byte : ℕ) → sign_extension_of byte < 65536
unfolding sign_extension_of
extended-below byte = wrapped_below word_width (signed_of byte_width byte)

displacement-below :
    (modrm : ℕ) (bytes : List ℕ) (index : ℕ) → All (λ b. b < 256) bytes → displacement_at modrm bytes index < 65536
displacement-below modrm bytes index all =
    chosen-below (mod_field modrm == 1) _ _ 65536 (extended-below (byte_at bytes index))
    (chosen-below ((mod_field modrm == 2) || has_direct_address modrm) _ _ 65536 (word_at-lt bytes index all) (omega arith))

parts-below :
    (row : Row) (offset : ℕ) (bytes : List ℕ) → All (λ b. b < 256) bytes
    → (row_parts row offset bytes).displacement < 65536
parts-below row offset bytes all =
    chosen-below row.has_modrm _ _ 65536 (displacement-below (byte_at bytes 1) bytes (length row.pattern) all)
    (omega arith)

-- LEA.

-- the displacement of LEA; of another operation the number that is given
abbrev displacement_of : Op → ℕ → ℕ
displacement_of (Lea r ea) other = ea.disp
displacement_of op other = other

rows-displacement :
    (cpu : Cpu) (p : Parts)
    → map (λ (row : Row). displacement_of (row.operation p) p.displacement) (table cpu)
    ≡ replicate (length (table cpu)) p.displacement
unfolding table
rows-displacement I8086 p = refl
rows-displacement I186 p = refl

mapped-at :
    {X : Type 0} (f : X → ℕ) (n : ℕ) (xs : List X) (k : ℕ) (x : X) → map f xs ≡ replicate (length xs) n
    → slice_get xs k ≡ Some x → f x ≡ n
mapped-at f n [] k x same at = let clash = at in cc
mapped-at f n (y ∷ ys) zero x same at = let first : f y ≡ n = cc in let is : y ≡ x = cc in ap f (sym is) ∙ first
mapped-at f n (y ∷ ys) (suc k) x same at =
    let rest : map f ys ≡ replicate (length ys) n = cc in mapped-at f n ys k x rest at

abbrev pub IsLeaWord : Op → Type 0
IsLeaWord (Lea r ea) = ea.disp < 65536
IsLeaWord op = Unit {0}

word-of : (op : Op) (n : ℕ) → displacement_of op n ≡ n → n < 65536 → IsLeaWord op
word-of (Lea r ea) n same small = subst (λ d. d < 65536) (sym same) small
word-of op n same small = tt

instruction-word :
    (cpu : Cpu) (offset : ℕ) (bytes : List ℕ) (instr : Instr) → All (λ b. b < 256) bytes
    → instruction_at cpu offset bytes ≡ Some instr
    → IsLeaWord instr.op
instruction-word cpu offset bytes instr all is =
    let found = instruction-row cpu offset bytes instr is in
    let p : Parts = row_parts found.0 offset bytes in
    let same =
    mapped-at (λ (row : Row). displacement_of (row.operation p) p.displacement) p.displacement (table cpu) found.1.0
    found.0 (rows-displacement cpu p) found.1.1 in
    subst (λ (i : Instr). IsLeaWord i.op) found.3
    (word-of (row_instruction found.0 offset bytes).op p.displacement same (parts-below found.0 offset bytes all))

pub lea-word :
    (image : Image) (layout : Layout) (at : ℕ) (instr : Instr) → IsLoaded image
    → instruction_in image layout at ≡ Some instr
    → IsLeaWord instr.op
lea-word image layout at instr loaded is =
    instruction-word layout.cpu at (drop at (code_within image layout)) instr
    (All-drop IsByte at (code_within image layout) (code-bytes image layout loaded)) is
