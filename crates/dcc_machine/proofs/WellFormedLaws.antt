-- Every instruction of the table has well-formed operands.
use Rattle.std.proofs.Common.{◌≡◌, ℕ, zero, suc, ◌+◌, ◌/◌, ◌%◌, ◌<◌, ◌≤◌, Bool, true, false, not, ◌&&◌, List, [], ◌∷◌, ◌++◌, length, get_or, refl, sym, ◌∙◌, ap, subst, arith}
use Rattle.std.specs.Prelude.{slice_get, IfSome, Option, Some, None, if◌then◌else◌, ◌==◌, nat_le}
use Rattle.std.proofs.lemmas.Bool.{leb-true}
use Rattle.std.proofs.lemmas.Bool.Decides.{nat_tests}
use Rattle.dcc_num.specs.declared.Width.{Width}
use Rattle.dcc_num.specs.declared.Width.TheVariants.{Byte as byte_width, Word as word_width}
use Rattle.dcc_num.specs.Numbers.{limit_of, signed_of, sign_extension_of}
use Rattle.dcc_num.proofs.Differences.{wrapped_below}
use Rattle.dcc_machine.specs.declared.cpu.Cpu.{Cpu}
use Rattle.dcc_machine.specs.declared.cpu.Cpu.TheVariants.{I8086, I186}
use Rattle.dcc_machine.specs.declared.instr.Shift.{Shift}
use Rattle.dcc_machine.specs.declared.instr.Shift.TheVariants.{Rcl, Rcr}
use Rattle.dcc_machine.specs.declared.instr.Count.TheVariants.{One, Cl, Const as ConstCount}
use Rattle.dcc_machine.specs.declared.instr.Operand.{Operand}
use Rattle.dcc_machine.specs.declared.instr.Operand.TheVariants.{Seg, Mem, Const}
use Rattle.dcc_machine.specs.declared.instr.Instr.{Instr}
use Rattle.dcc_machine.specs.Machine.{operand_width}
use Rattle.dcc_machine.specs.Bytes.{byte_at, word_at}
use Rattle.dcc_machine.specs.Operands.{register, rm_operand, mod_field, reg_field, address, width_of}
use Rattle.dcc_machine.specs.Table.{BytePattern, Row, Parts, in_range, fits_byte, fits, has_bytes, ConstantForm, no_constant, byte_constant, word_constant, signed_constant, constant_at, row_length, row_parts, row_instruction, table, instruction_at, any_modrm, rm, rm8, rm16, reg, segment, r8, r16, al, ax, accumulator, imm8, imm16, imm, direct, destination, source, this_byte, register_operand, constant_index, head_length, arithmetic_rows, unary_rows, stack_rows, move_rows, control_rows, plain_rows, later_rows, rows_besides, shift_of, any_operand, between}
use Rattle.dcc_machine.specs.WellFormed.{IsOperand, AreOperands, IsWordOperand, AreFactors, MayCount, IsShift}
use Rattle.dcc_machine.specs.WellFormed.{IsOperation}
use Rattle.dcc_machine.proofs.TableLaws.{and_left, and_right, instruction-row}

-- Operands.

-- an operand is well formed and of that width
pub record IsOf (w : Width) (x : Operand) : Type 0 where
  pub operand : IsOperand x
  pub width : operand_width x ≡ w

both_of : (w : Width) (a b : Operand) → IsOf w a → IsOf w b → AreOperands a b
both_of w a b p q = record { first = p.operand; second = q.operand; widths = p.width ∙ sym q.width }

register-of : (w : Width) (number : ℕ) → IsOf w (register w number)
register-of byte_width number = record { operand = tt; width = refl }
register-of word_width number = record { operand = tt; width = refl }

rm-of : (w : Width) (modrm displacement : ℕ) → IsOf w (rm_operand w modrm displacement)
rm-of w modrm displacement =
    elim (mod_field modrm == 3) as (λ b. IsOf w (if b then register w (modrm % 8) else Mem w (address modrm displacement))) [
      | true ↦ register-of w (modrm % 8)
      | false ↦ record { operand = tt; width = refl }
    ]

const-of : (w : Width) (constant : ℕ) → constant < limit_of w → IsOf w (Const w constant)
const-of w constant fits = record { operand = fits; width = refl }

memory-of : (w : Width) (ea : _) → IsOf w (Mem w ea)
memory-of w ea = record { operand = tt; width = refl }

word_operand : (x : Operand) → IsOf word_width x → IsWordOperand x
word_operand x p = record { operand = p.operand; width = p.width }

-- r/m and r, in either order
either_order : (p : Parts) → AreOperands (destination p) (source p)
either_order p =
    let w = width_of p.opcode in
    let r : IsOf w (reg p) = register-of w (reg_field p.modrm) in
    let m : IsOf w (rm p) = rm-of w p.modrm p.displacement in
    elim (p.opcode / 2 % 2 == 1) as (λ b. AreOperands (if b then reg p else rm p) (if b then rm p else reg p)) [
      | true ↦ both_of w (reg p) (rm p) r m
      | false ↦ both_of w (rm p) (reg p) m r
    ]

-- What the parts of an instruction are bounded by.

-- a constant fits its form
abbrev pub IsConstant : ConstantForm → ℕ → Type 0
IsConstant no_constant constant = constant ≡ 0
IsConstant byte_constant constant = constant < 256
IsConstant word_constant constant = constant < 65536
IsConstant signed_constant constant = constant < 65536

pub record ArePartsOf (row : Row) (parts : Parts) : Type 0 where
  pub constant : IsConstant row.constant_form parts.constant
  pub opcode : 0 < length row.pattern → fits_byte (get_or row.pattern 0 any_modrm) parts.opcode ≡ true
  pub modrm : row.has_modrm ≡ true → 1 < length row.pattern → fits_byte (get_or row.pattern 1 any_modrm) parts.modrm ≡ true

abbrev IsGood : Row → Type 0
IsGood row = (parts : Parts) → ArePartsOf row parts → IsOperation (row.operation parts)

-- the ModRM byte of a segment register from 0 to 3
segment-below : (first last : ℕ) (q : BytePattern) (modrm : ℕ) → q.regs.first ≡ first → q.regs.last ≡ last → last < 4 → fits_byte q modrm ≡ true → reg_field modrm < 4
segment-below first last q modrm f l lt h =
    let regs : in_range q.regs (reg_field modrm) ≡ true = and_right _ _ (and_left _ _ h) in
    let top : nat_le (reg_field modrm) q.regs.last ≡ true = and_right _ _ regs in
    omega (arith, l, lt, leb-true (reg_field modrm) q.regs.last top)

segment-of : (number : ℕ) → number < 4 → IsOf word_width (Seg number)
segment-of number lt = record { operand = lt; width = refl }

opcode-is : (byte : ℕ) (opcode : ℕ) → fits_byte (this_byte byte) opcode ≡ true → opcode ≡ byte
opcode-is byte opcode h =
    let range : in_range (this_byte byte).byte opcode ≡ true = and_left _ _ (and_left _ _ (and_left _ _ h)) in
    omega (arith, leb-true byte opcode (and_left _ _ range), leb-true opcode byte (and_right _ _ range))

-- the constant by the width bit of the opcode
limit-above : (w : Width) → 256 ≤ limit_of w
limit-above byte_width = omega arith
limit-above word_width = omega arith

imm_byte : (p : Parts) → p.constant < 256 → IsOf (width_of p.opcode) (imm p)
imm_byte p fits =
    let room = limit-above (width_of p.opcode) in
    let below : p.constant < limit_of (width_of p.opcode) = omega arith in
    const-of (width_of p.opcode) p.constant below

imm_word : (p : Parts) → width_of p.opcode ≡ word_width → p.constant < 65536 → IsOf (width_of p.opcode) (imm p)
imm_word p w fits =
    let below : p.constant < limit_of (width_of p.opcode) = subst (λ v. p.constant < limit_of v) (sym w) fits in
    const-of (width_of p.opcode) p.constant below

infixr 30 ◌&◌
-- each row of a list is good
data AllGood : List Row → Type 0 where
  none_left : AllGood []
  ◌&◌ : {row : Row} {rows : List Row} → IsGood row → AllGood rows → AllGood (row ∷ rows)

all_good-get : (rows : List Row) (k : ℕ) (row : Row) → AllGood rows → slice_get rows k ≡ Some row → IsGood row
all_good-get [] k row good at = cc
all_good-get (r ∷ rows) zero row (first & rest) at = let same : r ≡ row = cc in subst IsGood same first
all_good-get (r ∷ rows) (suc k) row (first & rest) at = all_good-get rows k row rest at

all_good-append : (rows others : List Row) → AllGood rows → AllGood others → AllGood (rows ++ others)
all_good-append [] others good more = more
all_good-append (r ∷ rows) others (first & rest) more = first & all_good-append rows others rest more

-- Operands of the rows.

r16_of : (p : Parts) → IsOf word_width (r16 p)
r16_of p = register-of word_width (p.opcode % 8)

rm16_of : (p : Parts) → IsOf word_width (rm16 p)
rm16_of p = rm-of word_width p.modrm p.displacement

rm_of : (p : Parts) → IsOf (width_of p.opcode) (rm p)
rm_of p = rm-of (width_of p.opcode) p.modrm p.displacement

reg_of : (p : Parts) → IsOf (width_of p.opcode) (reg p)
reg_of p = register-of (width_of p.opcode) (reg_field p.modrm)

accumulator_of : (p : Parts) → IsOf (width_of p.opcode) (accumulator p)
accumulator_of p = register-of (width_of p.opcode) 0

direct_of : (p : Parts) → IsOf (width_of p.opcode) (direct p)
direct_of p = memory-of (width_of p.opcode) _

imm16_of : (p : Parts) → p.constant < 65536 → IsOf word_width (imm16 p)
imm16_of p fits = const-of word_width p.constant fits

-- Shifts and rotates.

may-turn : (operation : Shift) (by_cl : Bool) → MayCount operation (if by_cl then Cl else One)
may-turn Rcl true = tt
may-turn Rcl false = tt
may-turn Rcr true = tt
may-turn Rcr false = tt
may-turn operation by_cl = tt

-- all numbers but those of RCL and RCR
abbrev is_plain_shift : ℕ → Bool
is_plain_shift number = not (number == 2) && not (number == 3)

may-shift : (number count : ℕ) → number < 8 → is_plain_shift number ≡ true → MayCount (shift_of number) (ConstCount count)
may-shift zero count below plain = tt
may-shift (suc zero) count below plain = tt
may-shift (suc (suc zero)) count below plain = cc
may-shift (suc (suc (suc zero))) count below plain = cc
may-shift (suc (suc (suc (suc zero)))) count below plain = tt
may-shift (suc (suc (suc (suc (suc zero))))) count below plain = tt
may-shift (suc (suc (suc (suc (suc (suc zero)))))) count below plain = tt
may-shift (suc (suc (suc (suc (suc (suc (suc zero))))))) count below plain = tt
may-shift (suc (suc (suc (suc (suc (suc (suc (suc n)))))))) count below plain = absurd (omega (arith, below))

-- by 1 or by CL
shift-of : (p : Parts) → IsShift (shift_of (reg_field p.modrm)) (rm p) (if p.opcode / 2 % 2 == 1 then Cl else One)
shift-of p = record {
  operand = (rm_of p).operand;
  may = may-turn (shift_of (reg_field p.modrm)) (p.opcode / 2 % 2 == 1);
}

-- by a constant, where the reg field lies in a range without 2 and 3
constant_shift-of :
    (p : Parts) (first last : ℕ) → fits_byte (any_operand first last) p.modrm ≡ true
    → ((number : ℕ) → first ≤ number → number ≤ last → (number < 8) × (is_plain_shift number ≡ true))
    → IsShift (shift_of (reg_field p.modrm)) (rm p) (ConstCount p.constant)
constant_shift-of p first last fits plain =
    let range : in_range (between first last) (reg_field p.modrm) ≡ true = and_right _ _ (and_left _ _ fits) in
    let low = leb-true first (reg_field p.modrm) (and_left _ _ range) in
    let high = leb-true (reg_field p.modrm) last (and_right _ _ range) in
    let both = plain (reg_field p.modrm) low high in
    record { operand = (rm_of p).operand; may = may-shift (reg_field p.modrm) p.constant both.0 both.1 }

plain-to_one : (number : ℕ) → 0 ≤ number → number ≤ 1 → (number < 8) × (is_plain_shift number ≡ true)
plain-to_one number low high = (omega (arith, high), grind (arith, nat_tests))

plain-four_five : (number : ℕ) → 4 ≤ number → number ≤ 5 → (number < 8) × (is_plain_shift number ≡ true)
plain-four_five number low high = (omega (arith, high), grind (arith, nat_tests))

plain-seven : (number : ℕ) → 7 ≤ number → number ≤ 7 → (number < 8) × (is_plain_shift number ≡ true)
plain-seven number low high = (omega (arith, high), grind (arith, nat_tests))

factors : (a : Operand) (constant : ℕ) → IsOf word_width a → constant < 65536 → AreFactors a constant
factors a constant is fits = record { operand = is.operand; width = is.width; fits = fits }

-- The rows.

arithmetic-good : AllGood arithmetic_rows
arithmetic-good =
    (λ p c. either_order p)
    & (λ p c. both_of byte_width al (imm8 p) (register-of byte_width 0) (const-of byte_width p.constant c.constant))
    & (λ p c. both_of word_width ax (imm16 p) (register-of word_width 0) (const-of word_width p.constant c.constant))
    & (λ p c. both_of byte_width (rm8 p) (imm8 p) (rm-of byte_width p.modrm p.displacement) (const-of byte_width p.constant c.constant))
    & (λ p c. both_of word_width (rm16 p) (imm16 p) (rm16_of p) (const-of word_width p.constant c.constant))
    & (λ p c. both_of word_width (rm16 p) (imm16 p) (rm16_of p) (const-of word_width p.constant c.constant))
    & (λ p c. both_of (width_of p.opcode) (rm p) (reg p) (rm_of p) (reg_of p))
    & (λ p c. both_of (width_of p.opcode) (accumulator p) (imm p) (accumulator_of p) (imm_byte p c.constant))
    & (λ p c. both_of (width_of p.opcode) (accumulator p) (imm p) (accumulator_of p) (imm_word p (ap width_of (opcode-is 0xa9 p.opcode (c.opcode (omega arith)))) c.constant))
    & (λ p c. both_of (width_of p.opcode) (rm p) (imm p) (rm_of p) (imm_byte p c.constant))
    & (λ p c. both_of (width_of p.opcode) (rm p) (imm p) (rm_of p) (imm_word p (ap width_of (opcode-is 0xf7 p.opcode (c.opcode (omega arith)))) c.constant))
    & none_left

unary-good : AllGood unary_rows
unary-good =
    (λ p c. (r16_of p).operand)
    & (λ p c. (r16_of p).operand)
    & (λ p c. (rm_of p).operand)
    & (λ p c. (rm_of p).operand)
    & (λ p c. (rm_of p).operand)
    & (λ p c. shift-of p)
    & (λ p c. shift-of p)
    & (λ p c. shift-of p)
    & (λ p c. shift-of p)
    & none_left

stack-good : AllGood stack_rows
stack-good =
    (λ p c. word_operand (r16 p) (r16_of p))
    & (λ p c. word_operand (r16 p) (r16_of p))
    & (λ p c. word_operand (r16 p) (r16_of p))
    & (λ p c. word_operand (r16 p) (r16_of p))
    & (λ p c. word_operand (rm16 p) (rm16_of p))
    & (λ p c. word_operand (rm16 p) (rm16_of p))
    & (λ p c. word_operand (rm16 p) (rm16_of p))
    & (λ p c. word_operand (rm16 p) (rm16_of p))
    & (λ p c. word_operand (rm16 p) (rm16_of p))
    & (λ p c. word_operand (rm16 p) (rm16_of p))
    & none_left

move-good : AllGood move_rows
move-good =
    (λ p c. both_of (width_of p.opcode) (rm p) (reg p) (rm_of p) (reg_of p))
    & (λ p c. both_of word_width ax (r16 p) (register-of word_width 0) (r16_of p))
    & (λ p c. either_order p)
    & (λ p c. both_of word_width (rm16 p) (segment p) (rm16_of p) (segment-of (reg_field p.modrm) (segment-below 0 3 (register_operand 0 3) p.modrm refl refl (omega arith) (c.modrm refl (omega arith)))))
    & (λ p c. both_of word_width (segment p) (rm16 p) (segment-of (reg_field p.modrm) (segment-below 0 0 (register_operand 0 0) p.modrm refl refl (omega arith) (c.modrm refl (omega arith)))) (rm16_of p))
    & (λ p c. both_of word_width (segment p) (rm16 p) (segment-of (reg_field p.modrm) (segment-below 2 3 (register_operand 2 3) p.modrm refl refl (omega arith) (c.modrm refl (omega arith)))) (rm16_of p))
    & (λ p c. tt)
    & (λ p c. both_of (width_of p.opcode) (accumulator p) (direct p) (accumulator_of p) (direct_of p))
    & (λ p c. both_of (width_of p.opcode) (direct p) (accumulator p) (direct_of p) (accumulator_of p))
    & (λ p c. both_of byte_width (r8 p) (imm8 p) (register-of byte_width (p.opcode % 8)) (const-of byte_width p.constant c.constant))
    & (λ p c. both_of word_width (r16 p) (imm16 p) (r16_of p) (const-of word_width p.constant c.constant))
    & (λ p c. both_of (width_of p.opcode) (rm p) (imm p) (rm_of p) (imm_byte p c.constant))
    & (λ p c. both_of (width_of p.opcode) (rm p) (imm p) (rm_of p) (imm_word p (ap width_of (opcode-is 0xc7 p.opcode (c.opcode (omega arith)))) c.constant))
    & none_left

control-good : AllGood control_rows
control-good =
    (λ p c. tt) & (λ p c. tt) & (λ p c. tt) & (λ p c. tt) & (λ p c. tt)
    & (λ p c. tt) & (λ p c. tt) & (λ p c. tt) & (λ p c. tt) & (λ p c. tt)
    & (λ p c. tt) & (λ p c. tt) & (λ p c. tt) & (λ p c. tt) & (λ p c. tt)
    & none_left

plain-good : AllGood plain_rows
plain-good =
    (λ p c. tt) & (λ p c. tt) & (λ p c. tt) & (λ p c. tt) & (λ p c. tt)
    & (λ p c. tt) & (λ p c. tt) & (λ p c. tt) & (λ p c. tt) & (λ p c. tt)
    & none_left

later-good : AllGood later_rows
later-good =
    (λ p c. word_operand (imm16 p) (imm16_of p c.constant))
    & (λ p c. word_operand (imm16 p) (imm16_of p c.constant))
    & (λ p c. factors (rm16 p) p.constant (rm16_of p) c.constant)
    & (λ p c. factors (rm16 p) p.constant (rm16_of p) c.constant)
    & (λ p c. constant_shift-of p 0 1 (c.modrm refl (omega arith)) plain-to_one)
    & (λ p c. constant_shift-of p 4 5 (c.modrm refl (omega arith)) plain-four_five)
    & (λ p c. constant_shift-of p 7 7 (c.modrm refl (omega arith)) plain-seven)
    & (λ p c. tt)
    & (λ p c. tt)
    & none_left

besides-good : (cpu : Cpu) → AllGood (rows_besides cpu)
besides-good I8086 = none_left
besides-good I186 = later-good

table-good : (cpu : Cpu) → AllGood (table cpu)
unfolding table
table-good cpu =
    all_good-append arithmetic_rows _ arithmetic-good
    (all_good-append unary_rows _ unary-good
    (all_good-append stack_rows _ stack-good
    (all_good-append move_rows _ move-good
    (all_good-append control_rows _ control-good
    (all_good-append plain_rows _ plain-good (besides-good cpu))))))

-- The parts of an instruction.

-- each of the bytes is below 256
abbrev pub AreBytes : List ℕ → Type 0
AreBytes bytes = (i : ℕ) → byte_at bytes i < 256

extension-below : (byte : ℕ) → sign_extension_of byte < 65536
unfolding sign_extension_of
extension-below byte = wrapped_below word_width (signed_of byte_width byte)

word-below : (bytes : List ℕ) (index : ℕ) → AreBytes bytes → word_at bytes index < 65536
unfolding word_at
word-below bytes index bs = omega (arith, bs index, bs (index + 1))

constant-fits : (form : ConstantForm) (bytes : List ℕ) (index : ℕ) → AreBytes bytes → IsConstant form (constant_at form bytes index)
constant-fits no_constant bytes index bs = refl
constant-fits byte_constant bytes index bs = bs index
constant-fits word_constant bytes index bs = word-below bytes index bs
constant-fits signed_constant bytes index bs = extension-below (byte_at bytes index)

fits-at : (patterns : List BytePattern) (bytes : List ℕ) (k : ℕ) → fits patterns bytes ≡ true → k < length patterns
    → fits_byte (get_or patterns k any_modrm) (byte_at bytes k) ≡ true
fits-at [] bytes k h lt = absurd (omega arith)
fits-at (p ∷ ps) [] k h lt = cc
fits-at (p ∷ ps) (b ∷ bytes) zero h lt = and_left _ _ h
fits-at (p ∷ ps) (b ∷ bytes) (suc k) h lt = fits-at ps bytes k (and_right _ _ h) (omega arith)

parts-of : (row : Row) (offset : ℕ) (bytes : List ℕ) → AreBytes bytes → fits row.pattern bytes ≡ true → ArePartsOf row (row_parts row offset bytes)
parts-of row offset bytes bs h = record {
  constant = constant-fits row.constant_form bytes (constant_index row.constant_place (head_length row bytes)) bs;
  opcode = λ lt. fits-at row.pattern bytes 0 h lt;
  modrm = λ has lt.
      ap (λ b. fits_byte (get_or row.pattern 1 any_modrm) (if b then byte_at bytes 1 else 0)) has
      ∙ fits-at row.pattern bytes 1 h lt;
}

-- the operation of an instruction of bytes is well formed
pub instruction-operation : (cpu : Cpu) (offset : ℕ) (bytes : List ℕ) (instr : Instr) → AreBytes bytes → instruction_at cpu offset bytes ≡ Some instr → IsOperation instr.op
instruction-operation cpu offset bytes instr bs e =
    let found = instruction-row cpu offset bytes instr e in
    let row = found.0 in
    let good : IsGood row = all_good-get (table cpu) found.1.0 row (table-good cpu) found.1.1 in
    let well : IsOperation (row_instruction row offset bytes).op =
    good (row_parts row offset bytes) (parts-of row offset bytes bs (and_left (fits row.pattern bytes) (has_bytes (row_length row bytes) bytes) found.2)) in
    subst (λ (i : Instr). IsOperation i.op) found.3 well

pub found-operation :
    (cpu : Cpu) (offset : ℕ) (bytes : List ℕ) (found : Option Instr) → AreBytes bytes
    → found ≡ instruction_at cpu offset bytes → IfSome found (λ instr. IsOperation instr.op)
found-operation cpu offset bytes None bs e = tt
found-operation cpu offset bytes (Some instr) bs e = instruction-operation cpu offset bytes instr bs (sym e)
