-- What decoding gives: no half of SP or BP, no segment register but to MOV, no RCL or RCR by a constant, no table
-- through SP or BP, and operands of one width.
use Rattle.std.proofs.Common.{◌≡◌, ◌<◌, ℕ, zero, suc, ◌/◌, ◌%◌, Bool, true, false, true≢false, ◌&&◌, ◌⊎◌, inl, inr, List, [], ◌∷◌, ◌++◌, slice_get, Some, refl, sym, ap, ◌∙◌, subst, arith}
use Rattle.std.specs.Prelude.{◌==◌, not, if◌then◌else◌}
use Rattle.dcc_num.specs.declared.Width.{Width}
use Rattle.dcc_num.specs.declared.Width.TheVariants.{Byte as byte_width, Word as word_width}
use Rattle.dcc_machine.specs.declared.cpu.Cpu.{Cpu}
use Rattle.dcc_machine.specs.declared.cpu.Cpu.TheVariants.{I8086, I186}
use Rattle.dcc_machine.specs.declared.instr.Operand.{Operand}
use Rattle.dcc_machine.specs.declared.instr.Operand.TheVariants.{Byte, Seg, Mem}
use Rattle.dcc_machine.specs.declared.instr.Shift.{Shift}
use Rattle.dcc_machine.specs.declared.instr.Count.{Count}
use Rattle.dcc_machine.specs.declared.instr.Count.TheVariants.{One, Cl, Const as ConstCount}
use Rattle.dcc_machine.specs.declared.instr.Op.{Op}
use Rattle.dcc_machine.specs.declared.instr.Op.TheVariants.{Alu as AluOp, Unary as UnaryOp, Shift as ShiftOp, Mov, Xchg, Imul3, Push, Pop, Table as TableOp}
use Rattle.dcc_machine.specs.declared.instr.Instr.{Instr}
use Rattle.dcc_machine.specs.Machine.{operand_width, is_segment, is_general}
use Rattle.dcc_machine.specs.Bytes.{byte_at}
use Rattle.dcc_machine.specs.Operands.{word_register, register, rm_operand, mod_field, reg_field, rm_field, address, width_of}
use Rattle.dcc_machine.specs.Table.{Row, Parts, row_parts, in_range, fits, fits_byte, has_bytes, row_length, between, bytes_between, any_operand, shift_of, table, arithmetic_rows, unary_rows, stack_rows, move_rows, control_rows, plain_rows, later_rows, rows_besides, instruction_at, rm, rm8, rm16, reg, r8, imm, imm8, direct, accumulator, destination, source}
use Rattle.dcc_prog.specs.Construct.{is_system}
use Rattle.dcc_machine.specs.Wanted.{is_through_carry}
use Rattle.dcc_machine.proofs.TableLaws.{instruction-row}
use Rattle.dcc_machine.proofs.LocationKept.{or-none}
use Rattle.dcc_ir.proofs.PathLaws.{decided}
use Rattle.dcc_lift.proofs.ListTests.{and_left, and_right, and_both}

-- the operand is no segment register, and no half of SP or BP
abbrev pub is_named : Operand → Bool
is_named (Byte r half) = is_general r
is_named (Seg number) = false
is_named operand = true

-- RCL and RCR don't go by a constant
abbrev pub is_shiftable : Shift → Count → Bool
is_shiftable operation (ConstCount number) = not (is_through_carry operation)
is_shiftable operation count = true

-- two widths are one
abbrev pub same_width : Width → Width → Bool
same_width byte_width byte_width = true
same_width word_width word_width = true
same_width w v = false

pub one_width : (w v : Width) → same_width w v ≡ true → w ≡ v
one_width byte_width byte_width t = refl
one_width word_width word_width t = refl
one_width w v t = absurd (true≢false (sym t))

-- the two operands are of one width
abbrev pub are_alike : Operand → Operand → Bool
are_alike a b = same_width (operand_width a) (operand_width b)

-- the operand is a word
abbrev pub is_wide : Operand → Bool
is_wide a = same_width (operand_width a) word_width

abbrev pub is_decoded : Op → Bool
is_decoded (AluOp operation a b) = is_named a && is_named b
is_decoded (UnaryOp operation a) = is_named a
is_decoded (ShiftOp operation a count) = is_named a && is_shiftable operation count
is_decoded (Mov to from) = (is_named to && is_named from) && are_alike to from
is_decoded (Xchg a b) = (is_named a && is_named b) && are_alike a b
is_decoded (Imul3 r a factor) = is_named a
is_decoded (Push a) = is_named a && is_wide a
is_decoded (Pop a) = is_named a && is_wide a
is_decoded (TableOp r offset) = is_general r
is_decoded op = true

-- Operands.

below_sp : (n : ℕ) → n < 4 → is_general (word_register n) ≡ true
below_sp zero lt = refl
below_sp (suc zero) lt = refl
below_sp (suc (suc zero)) lt = refl
below_sp (suc (suc (suc zero))) lt = refl
below_sp (suc (suc (suc (suc n)))) lt = absurd (omega (arith, lt))

register_named : (w : Width) (number : ℕ) → is_named (register w number) ≡ true
register_named byte_width number = below_sp (number % 4) (omega arith)
register_named word_width number = refl

rm_named : (w : Width) (modrm displacement : ℕ) → is_named (rm_operand w modrm displacement) ≡ true
rm_named w modrm displacement =
    elim (mod_field modrm == 3) as (λ b. is_named (if b then register w (rm_field modrm) else Mem w (address modrm displacement)) ≡ true) [
      | true ↦ register_named w (rm_field modrm)
      | false ↦ refl
    ]

of_rm : (p : Parts) → is_named (rm p) ≡ true
of_rm p = rm_named (width_of p.opcode) p.modrm p.displacement

of_rm8 : (p : Parts) → is_named (rm8 p) ≡ true
of_rm8 p = rm_named byte_width p.modrm p.displacement

of_rm16 : (p : Parts) → is_named (rm16 p) ≡ true
of_rm16 p = rm_named word_width p.modrm p.displacement

of_reg : (p : Parts) → is_named (reg p) ≡ true
of_reg p = register_named (width_of p.opcode) (reg_field p.modrm)

of_accumulator : (p : Parts) → is_named (accumulator p) ≡ true
of_accumulator p = register_named (width_of p.opcode) 0

with_constant : (a : Operand) → is_named a ≡ true → (is_named a && true) ≡ true
with_constant a t = and_both (is_named a) true t refl

directed : (p : Parts) → (is_named (destination p) && is_named (source p)) ≡ true
directed p =
    elim (p.opcode / 2 % 2 == 1) as (λ b. (is_named (if b then reg p else rm p) && is_named (if b then rm p else reg p)) ≡ true) [
      | true ↦ and_both (is_named (reg p)) (is_named (rm p)) (of_reg p) (of_rm p)
      | false ↦ and_both (is_named (rm p)) (is_named (reg p)) (of_rm p) (of_reg p)
    ]

-- Widths.

width_itself : (w : Width) → same_width w w ≡ true
width_itself byte_width = refl
width_itself word_width = refl

register_width : (w : Width) (number : ℕ) → operand_width (register w number) ≡ w
register_width byte_width number = refl
register_width word_width number = refl

rm_width : (w : Width) (modrm displacement : ℕ) → operand_width (rm_operand w modrm displacement) ≡ w
rm_width w modrm displacement =
    elim (mod_field modrm == 3) as (λ b. operand_width (if b then register w (rm_field modrm) else Mem w (address modrm displacement)) ≡ w) [
      | true ↦ register_width w (rm_field modrm)
      | false ↦ refl
    ]

-- two operands of one width are alike
alike : (w : Width) (a b : Operand) → operand_width a ≡ w → operand_width b ≡ w → are_alike a b ≡ true
alike w a b e f = ap (λ v. same_width v (operand_width b)) e ∙ ap (same_width w) f ∙ width_itself w

directed_alike : (p : Parts) → are_alike (destination p) (source p) ≡ true
directed_alike p =
    elim (p.opcode / 2 % 2 == 1) as (λ b. are_alike (if b then reg p else rm p) (if b then rm p else reg p) ≡ true) [
      | true ↦ alike (width_of p.opcode) (reg p) (rm p) (register_width (width_of p.opcode) (reg_field p.modrm)) (rm_width (width_of p.opcode) p.modrm p.displacement)
      | false ↦ alike (width_of p.opcode) (rm p) (reg p) (rm_width (width_of p.opcode) p.modrm p.displacement) (register_width (width_of p.opcode) (reg_field p.modrm))
    ]

wide_rm : (p : Parts) → (is_named (rm16 p) && is_wide (rm16 p)) ≡ true
wide_rm p = and_both (is_named (rm16 p)) (is_wide (rm16 p)) (of_rm16 p) (ap (λ w. same_width w word_width) (rm_width word_width p.modrm p.displacement))

-- named operands of one width
both_alike : (w : Width) (a b : Operand) → (is_named a && is_named b) ≡ true → operand_width a ≡ w → operand_width b ≡ w → ((is_named a && is_named b) && are_alike a b) ≡ true
both_alike w a b t e f = and_both (is_named a && is_named b) (are_alike a b) t (alike w a b e f)

-- Shifts.

shifted : (p : Parts) → (is_named (rm p) && is_shiftable (shift_of (reg_field p.modrm)) (if p.opcode / 2 % 2 == 1 then Cl else One)) ≡ true
shifted p = and_both (is_named (rm p)) (is_shiftable (shift_of (reg_field p.modrm)) (if p.opcode / 2 % 2 == 1 then Cl else One)) (of_rm p)
    (elim (p.opcode / 2 % 2 == 1) as (λ b. is_shiftable (shift_of (reg_field p.modrm)) (if b then Cl else One) ≡ true) [
      | true ↦ refl
      | false ↦ refl
    ])

turn_number : (n : ℕ) → is_through_carry (shift_of n) ≡ true → (n ≡ 2) ⊎ (n ≡ 3)
turn_number zero t = absurd (true≢false (sym t))
turn_number (suc zero) t = absurd (true≢false (sym t))
turn_number (suc (suc zero)) t = inl refl
turn_number (suc (suc (suc zero))) t = inr refl
turn_number (suc (suc (suc (suc zero)))) t = absurd (true≢false (sym t))
turn_number (suc (suc (suc (suc (suc zero))))) t = absurd (true≢false (sym t))
turn_number (suc (suc (suc (suc (suc (suc zero)))))) t = absurd (true≢false (sym t))
turn_number (suc (suc (suc (suc (suc (suc (suc zero))))))) t = absurd (true≢false (sym t))
turn_number (suc (suc (suc (suc (suc (suc (suc (suc n)))))))) t = absurd (true≢false (sym t))

turnless : (first last n : ℕ) → in_range (between first last) n ≡ true → in_range (between first last) 2 ≡ false → in_range (between first last) 3 ≡ false → is_through_carry (shift_of n) ≡ false
turnless first last n t two three = elim (decided (is_through_carry (shift_of n))) [
  | inr f ↦ f
  | inl turn ↦ elim (turn_number n turn) [
    | inl e ↦ absurd (true≢false (sym t ∙ ap (in_range (between first last)) e ∙ two))
    | inr e ↦ absurd (true≢false (sym t ∙ ap (in_range (between first last)) e ∙ three))
  ]
]

-- the field of the ModRM byte
field_within : (first last : ℕ) (bytes : List ℕ) → fits (bytes_between 0xc0 0xc1 ∷ any_operand first last ∷ []) bytes ≡ true → in_range (between first last) (reg_field (byte_at bytes 1)) ≡ true
field_within first last [] t = absurd (true≢false (sym t))
field_within first last (a ∷ []) t = absurd (true≢false (sym (and_right (fits_byte (bytes_between 0xc0 0xc1) a) false t)))
field_within first last (a ∷ b ∷ bytes) t =
    let modrm = and_left (fits_byte (any_operand first last) b) true (and_right (fits_byte (bytes_between 0xc0 0xc1) a) (fits_byte (any_operand first last) b && true) t) in
    let byte = in_range (between 0 255) b in
    let mods = in_range (between 0 3) (mod_field b) in
    let regs = in_range (between first last) (reg_field b) in
    let rms = in_range (between 0 7) (rm_field b) in
    and_right (byte && mods) regs (and_left ((byte && mods) && regs) rms modrm)

-- The table.

-- The operation of the row is such: as the parts alone tell, where it is none of the prelude's kind, or by the pattern of
-- the ModRM byte.
data IsNamedRow (row : Row) : Type 0 where
  bare : ((p : Parts) → is_decoded (row.operation p) ≡ true) → IsNamedRow row
  plainly : ((p : Parts) → is_system (row.operation p) ≡ false → is_decoded (row.operation p) ≡ true) → IsNamedRow row
  fitting : row.has_modrm ≡ true → ((bytes : List ℕ) (p : Parts) → p.modrm ≡ byte_at bytes 1 → fits row.pattern bytes ≡ true → is_decoded (row.operation p) ≡ true) → IsNamedRow row

named_tells : (row : Row) → IsNamedRow row → (offset : ℕ) (bytes : List ℕ) → fits row.pattern bytes ≡ true → is_system (row.operation (row_parts row offset bytes)) ≡ false
    → is_decoded (row.operation (row_parts row offset bytes)) ≡ true
named_tells row (bare named) offset bytes fit other = named (row_parts row offset bytes)
named_tells row (plainly named) offset bytes fit other = named (row_parts row offset bytes) other
named_tells row (fitting has named) offset bytes fit other = named bytes (row_parts row offset bytes) (ap (λ b. if b then byte_at bytes 1 else 0) has) fit

infixr 30 ◌&◌
data AreNamed : List Row → Type 0 where
  none_left : AreNamed []
  ◌&◌ : {row : Row} {rows : List Row} → IsNamedRow row → AreNamed rows → AreNamed (row ∷ rows)

named-append : (rows others : List Row) → AreNamed rows → AreNamed others → AreNamed (rows ++ others)
named-append [] others none_left more = more
named-append (row ∷ rows) others (first & rest) more = first & named-append rows others rest more

named-get : (rows : List Row) (k : ℕ) (row : Row) → AreNamed rows → slice_get rows k ≡ Some row → IsNamedRow row
named-get [] k row named at = cc
named-get (r ∷ rows) zero row (first & rest) at = let same : r ≡ row = cc in subst IsNamedRow same first
named-get (r ∷ rows) (suc k) row (first & rest) at = named-get rows k row rest at

arithmetic-named : AreNamed arithmetic_rows
arithmetic-named =
    bare (λ p. directed p)
    & bare (λ p. refl)
    & bare (λ p. refl)
    & bare (λ p. with_constant (rm8 p) (of_rm8 p))
    & bare (λ p. with_constant (rm16 p) (of_rm16 p))
    & bare (λ p. with_constant (rm16 p) (of_rm16 p))
    & bare (λ p. and_both (is_named (rm p)) (is_named (reg p)) (of_rm p) (of_reg p))
    & bare (λ p. with_constant (accumulator p) (of_accumulator p))
    & bare (λ p. with_constant (accumulator p) (of_accumulator p))
    & bare (λ p. with_constant (rm p) (of_rm p))
    & bare (λ p. with_constant (rm p) (of_rm p))
    & none_left

unary-named : AreNamed unary_rows
unary-named =
    bare (λ p. refl)
    & bare (λ p. refl)
    & bare of_rm
    & bare of_rm
    & bare of_rm
    & bare shifted
    & bare shifted
    & bare shifted
    & bare shifted
    & none_left

stack-named : AreNamed stack_rows
stack-named =
    bare (λ p. refl)
    & bare (λ p. refl)
    & bare (λ p. refl)
    & bare (λ p. refl)
    & bare wide_rm
    & bare wide_rm
    & bare wide_rm
    & bare wide_rm
    & bare wide_rm
    & bare wide_rm
    & none_left

move-named : AreNamed move_rows
move-named =
    bare (λ p. both_alike (width_of p.opcode) (rm p) (reg p) (and_both (is_named (rm p)) (is_named (reg p)) (of_rm p) (of_reg p)) (rm_width (width_of p.opcode) p.modrm p.displacement) (register_width (width_of p.opcode) (reg_field p.modrm)))
    & bare (λ p. refl)
    & bare (λ p. and_both (is_named (destination p) && is_named (source p)) (are_alike (destination p) (source p)) (directed p) (directed_alike p))
    & plainly (λ p other. absurd (true≢false (or-none (is_segment (rm16 p)) true other).1))
    & plainly (λ p other. absurd (true≢false other))
    & plainly (λ p other. absurd (true≢false other))
    & bare (λ p. refl)
    & bare (λ p. both_alike (width_of p.opcode) (accumulator p) (direct p) (with_constant (accumulator p) (of_accumulator p)) (register_width (width_of p.opcode) 0) refl)
    & bare (λ p. both_alike (width_of p.opcode) (direct p) (accumulator p) (of_accumulator p) refl (register_width (width_of p.opcode) 0))
    & bare (λ p. both_alike byte_width (r8 p) (imm8 p) (with_constant (r8 p) (register_named byte_width (p.opcode % 8))) refl refl)
    & bare (λ p. refl)
    & bare (λ p. both_alike (width_of p.opcode) (rm p) (imm p) (with_constant (rm p) (of_rm p)) (rm_width (width_of p.opcode) p.modrm p.displacement) refl)
    & bare (λ p. both_alike (width_of p.opcode) (rm p) (imm p) (with_constant (rm p) (of_rm p)) (rm_width (width_of p.opcode) p.modrm p.displacement) refl)
    & none_left

control-named : AreNamed control_rows
control-named =
    bare (λ p. refl) & bare (λ p. refl) & bare (λ p. refl) & bare (λ p. refl) & bare (λ p. refl)
    & bare (λ p. refl) & bare (λ p. refl) & bare (λ p. refl) & bare (λ p. refl) & bare (λ p. refl)
    & bare (λ p. refl) & bare (λ p. refl) & bare (λ p. refl) & bare (λ p. refl) & bare (λ p. refl) & none_left

plain-named : AreNamed plain_rows
plain-named =
    bare (λ p. refl) & bare (λ p. refl) & bare (λ p. refl) & bare (λ p. refl) & bare (λ p. refl)
    & bare (λ p. refl) & bare (λ p. refl) & bare (λ p. refl) & bare (λ p. refl) & bare (λ p. refl) & none_left

-- a shift by a constant, whose number is one of these
constantly : (first last : ℕ) (bytes : List ℕ) (p : Parts) → fits (bytes_between 0xc0 0xc1 ∷ any_operand first last ∷ []) bytes ≡ true → p.modrm ≡ byte_at bytes 1
    → in_range (between first last) 2 ≡ false → in_range (between first last) 3 ≡ false → (is_named (rm p) && not (is_through_carry (shift_of (reg_field p.modrm)))) ≡ true
constantly first last bytes p fit is two three =
    and_both (is_named (rm p)) (not (is_through_carry (shift_of (reg_field p.modrm)))) (of_rm p)
    (ap (λ n. not (is_through_carry (shift_of (reg_field n)))) is ∙ ap not (turnless first last (reg_field (byte_at bytes 1)) (field_within first last bytes fit) two three))

later-named : AreNamed later_rows
later-named =
    bare (λ p. refl)
    & bare (λ p. refl)
    & bare of_rm16
    & bare of_rm16
    & fitting refl (λ bytes p is fit. constantly 0 1 bytes p fit is refl refl)
    & fitting refl (λ bytes p is fit. constantly 4 5 bytes p fit is refl refl)
    & fitting refl (λ bytes p is fit. constantly 7 7 bytes p fit is refl refl)
    & bare (λ p. refl)
    & bare (λ p. refl)
    & none_left

besides-named : (cpu : Cpu) → AreNamed (rows_besides cpu)
besides-named I8086 = none_left
besides-named I186 = later-named

table-named : (cpu : Cpu) → AreNamed (table cpu)
unfolding table
table-named cpu =
    named-append arithmetic_rows _ arithmetic-named
    (named-append unary_rows _ unary-named
    (named-append stack_rows _ stack-named
    (named-append move_rows _ move-named
    (named-append control_rows _ control-named
    (named-append plain_rows _ plain-named (besides-named cpu))))))

pub instruction-decoded : (cpu : Cpu) (offset : ℕ) (bytes : List ℕ) (instr : Instr) → instruction_at cpu offset bytes ≡ Some instr → is_system instr.op ≡ false → is_decoded instr.op ≡ true
instruction-decoded cpu offset bytes instr e =
    let found = instruction-row cpu offset bytes instr e in
    let row = found.0 in
    let named : IsNamedRow row = named-get (table cpu) found.1.0 row (table-named cpu) found.1.1 in
    subst (λ (i : Instr). is_system i.op ≡ false → is_decoded i.op ≡ true) found.3
    (named_tells row named offset bytes (and_left (fits row.pattern bytes) (has_bytes (row_length row bytes) bytes) found.2))
