-- No instruction of the table is an indirect jump or call.
use Rattle.std.proofs.Common.{◌≡◌, inl, inr, ℕ, ◌+◌, ◌≤◌, ◌<◌, List, [], ◌∷◌, All, length, drop, get_or, Some, None, refl, sym, ap, ◌∙◌, subst, arith, length-drop, get_or-drop}
use Rattle.std.specs.Prelude.{find}
use Rattle.std.proofs.lemmas.Bool.{cases_lt}
use Rattle.std.proofs.lemmas.List.{get_or_past}
use Rattle.std.proofs.lemmas.List.Elements.{All-take, All-drop}
use Rattle.dcc_machine.specs.declared.cpu.Cpu.{Cpu}
use Rattle.dcc_machine.specs.declared.cpu.Cpu.TheVariants.{I8086, I186}
use Rattle.dcc_machine.specs.declared.image.Image.{Image}
use Rattle.dcc_prog.specs.declared.procedure.Layout.{Layout}
use Rattle.dcc_machine.specs.declared.instr.Instr.{Instr}
use Rattle.dcc_machine.specs.Bytes.{byte_at}
use Rattle.dcc_machine.specs.Code.{code_of}
use Rattle.dcc_machine.specs.MzImage.{IsLoaded}
use Rattle.dcc_machine.specs.Operands.{reg_field}
use Rattle.dcc_machine.specs.Table.{Row, BytePattern, table, fits, this_byte, any_operand, instruction_at}
use Rattle.dcc_prog.specs.Trail.{code_within, instruction_in}
use Rattle.dcc_prog.specs.Construct.{HasIndirect, IsIndirectJump, IsIndirectCall}
use Rattle.dcc_machine.proofs.TableLaws.{and_left, and_both, find-fits, find-within, rows_within, instruction-row}
use Rattle.dcc_machine.proofs.MzImageLaws.{All-loaded}
use Rattle.dcc_decode.proofs.Forms.{fits-this, fits-any_operand}

-- the bytes FFh and a ModRM byte with a reg field from 2 to 5
abbrev form : List BytePattern
form = this_byte 0xff ∷ any_operand 2 5 ∷ []

no-row : (cpu : Cpu) → rows_within form (table cpu) ≡ []
unfolding table
no-row I8086 = refl
no-row I186 = refl

none-fits :
    (cpu : Cpu) (m : ℕ) (rest : List ℕ) → m < 256 → 2 ≤ reg_field m → reg_field m ≤ 5
    → find (λ row. fits row.pattern (0xff ∷ m ∷ rest)) (table cpu) ≡ None
none-fits cpu m rest short low high =
    find-within form (0xff ∷ m ∷ rest) (table cpu)
    (and_both _ _ (fits-this 0xff 0xff refl) (and_both _ _ (fits-any_operand 2 5 m low high short) refl))
    ∙ ap (find (λ (row : Row). fits row.pattern (0xff ∷ m ∷ rest))) (no-row cpu)

none-there :
    (cpu : Cpu) (at m : ℕ) (rest : List ℕ) (instr : Instr) → m < 256 → 2 ≤ reg_field m → reg_field m ≤ 5
    → instruction_at cpu at (0xff ∷ m ∷ rest) ≡ Some instr → ⊥
none-there cpu at m rest instr short low high is =
    let row = instruction-row cpu at (0xff ∷ m ∷ rest) instr is in
    let found = find-fits cpu (0xff ∷ m ∷ rest) row.0 row.1 (and_left _ _ row.2) in
    let clash = sym (none-fits cpu m rest short low high) ∙ found in
    cc

-- a list of two or more
two-of : (l : List ℕ) → 2 ≤ length l → (rest : List ℕ) × (l ≡ get_or l 0 0 ∷ get_or l 1 0 ∷ rest)
two-of [] le = absurd (omega arith)
two-of (x ∷ []) le = absurd (omega arith)
two-of (x ∷ y ∷ rest) le = (rest, refl)

not-indirect :
    (cpu : Cpu) (code : List ℕ) (at reg : ℕ) (instr : Instr) → ((i : ℕ) → get_or code i 0 < 256) → 2 ≤ reg → reg ≤ 5
    → instruction_at cpu at (drop at code) ≡ Some instr → ¬ HasIndirect code at reg
not-indirect cpu code at reg instr bytes low high is h =
    let two = two-of (drop at code) (let e = length-drop at code in omega (arith, h.inside)) in
    let first : get_or (drop at code) 0 0 ≡ 0xff =
    get_or-drop at code 0 0 ∙ ap (λ n. get_or code n 0) (omega arith) ∙ h.opcode in
    let second : get_or (drop at code) 1 0 ≡ byte_at code (at + 1) = get_or-drop at code 1 0 in
    let l : drop at code ≡ 0xff ∷ byte_at code (at + 1) ∷ two.0 =
    two.1 ∙ ap (λ n. n ∷ get_or (drop at code) 1 0 ∷ two.0) first ∙ ap (λ n. 0xff ∷ n ∷ two.0) second in
    none-there cpu at (byte_at code (at + 1)) two.0 instr (bytes (at + 1)) (omega (arith, h.reg_is))
    (omega (arith, h.reg_is)) (subst (λ b. instruction_at cpu at b ≡ Some instr) l is)

-- the bytes of the code are bytes
code-bytes : (image : Image) (layout : Layout) → IsLoaded image → All (λ b. b < 256) (code_within image layout)
unfolding code_of
code-bytes image layout loaded =
    All-take (λ b. b < 256) layout.code_end (code_of image)
    (All-take (λ b. b < 256) image.code_len _ (All-drop (λ b. b < 256) _ image.bytes.items (All-loaded image loaded)))

code-byte : (image : Image) (layout : Layout) → IsLoaded image → (i : ℕ) → get_or (code_within image layout) i 0 < 256
code-byte image layout loaded i = elim (cases_lt i (length (code_within image layout))) [
  | inl inside ↦ code-bytes image layout loaded i 0 inside
  | inr past ↦ (let zero = get_or_past (code_within image layout) i 0 past in omega (arith, zero))
]

module _ (image : Image) (layout : Layout) (loaded : IsLoaded image) (at : ℕ) (instr : Instr)
    (is : instruction_in image layout at ≡ Some instr) where
  pub no-jump : ¬ IsIndirectJump (code_within image layout) at
  no-jump h = elim h [
    | inl four ↦
        not-indirect layout.cpu (code_within image layout) at 4 instr (code-byte image layout loaded) (omega arith)
        (omega arith) is four
    | inr five ↦
        not-indirect layout.cpu (code_within image layout) at 5 instr (code-byte image layout loaded) (omega arith)
        (omega arith) is five
  ]

  pub no-call : ¬ IsIndirectCall (code_within image layout) at
  no-call h = elim h [
    | inl two ↦
        not-indirect layout.cpu (code_within image layout) at 2 instr (code-byte image layout loaded) (omega arith)
        (omega arith) is two
    | inr three ↦
        not-indirect layout.cpu (code_within image layout) at 3 instr (code-byte image layout loaded) (omega arith)
        (omega arith) is three
  ]
