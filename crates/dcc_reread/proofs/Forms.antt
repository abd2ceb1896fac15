-- Which operands the table's operations have: registers that have a name, and addresses of the eight sums of registers
-- or of a displacement alone.
use Rattle.std.proofs.Common.{◌≡◌, ℕ, zero, suc, ◌+◌, ◌/◌, ◌%◌, ◌<◌, Bool, true, false, ◌&&◌, List, [], ◌∷◌, ◌++◌, length, get_or, refl, sym, ap, subst, arith}
use Rattle.std.specs.Prelude.{slice_get, Option, Some, None, if◌then◌else◌, ◌==◌, ◌||◌}
use Rattle.std.proofs.lemmas.Bool.Decides.{nat_tests}
use Rattle.dcc_num.specs.declared.Reg.{Reg}
use Rattle.dcc_num.specs.declared.Reg.TheVariants.{Ax, Cx, Dx, Bx, Sp, Bp, Si, Di}
use Rattle.dcc_num.specs.declared.Half.{Half}
use Rattle.dcc_num.specs.declared.Width.{Width}
use Rattle.dcc_num.specs.declared.Width.TheVariants.{Byte as byte_width, Word as word_width}
use Rattle.dcc_num.specs.Numbers.{signed_of, sign_extension_of}
use Rattle.dcc_num.proofs.Differences.{wrapped_below}
use Rattle.dcc_machine.specs.declared.cpu.Cpu.{Cpu}
use Rattle.dcc_machine.specs.declared.cpu.Cpu.TheVariants.{I8086, I186}
use Rattle.dcc_machine.specs.declared.instr.Count.{Count}
use Rattle.dcc_machine.specs.declared.instr.Count.TheVariants.{One, Cl, Const as ConstCount}
use Rattle.dcc_machine.specs.declared.instr.Ea.{Ea}
use Rattle.dcc_machine.specs.declared.instr.Operand.{Operand}
use Rattle.dcc_machine.specs.declared.instr.Operand.TheVariants.{Word, Byte, Seg, Mem, Const}
use Rattle.dcc_machine.specs.declared.instr.Op.{Op}
use Rattle.dcc_machine.specs.declared.instr.Op.TheVariants.{Alu, Unary, Shift, Mov, Xchg, Lea, Imul3, Push, Pop, Enter, Leave, Plain, Jump, Branch, Loop, LoopE, LoopNe, Jcxz, Table, Call, Ret, Int21}
use Rattle.dcc_machine.specs.declared.instr.Instr.{Instr}
use Rattle.dcc_machine.specs.Bytes.{byte_at, word_at}
use Rattle.dcc_machine.specs.Operands.{register, word_register, rm_operand, mod_field, rm_field, reg_field, address, width_of, has_direct_address, displacement_at, base_registers, index_registers}
use Rattle.dcc_machine.specs.Table.{Row, Parts, fits, has_bytes, ConstantForm, no_constant, byte_constant, word_constant, signed_constant, constant_at, row_length, row_parts, row_instruction, table, instruction_at, rm, rm8, rm16, reg, segment, r8, r16, al, ax, accumulator, imm8, imm16, imm, direct, destination, source, target, head_length, constant_index, arithmetic_rows, unary_rows, stack_rows, move_rows, control_rows, plain_rows, later_rows, rows_besides}
use Rattle.dcc_machine.proofs.TableLaws.{instruction-row}

-- Forms --------------------------------------------------------------------------------------

-- the registers of an address
pub data AreRegisters : Option Reg → Option Reg → Type 0 where
  none : AreRegisters None None
  bx : AreRegisters (Some Bx) None
  bp : AreRegisters (Some Bp) None
  si : AreRegisters None (Some Si)
  di : AreRegisters None (Some Di)
  bx_si : AreRegisters (Some Bx) (Some Si)
  bx_di : AreRegisters (Some Bx) (Some Di)
  bp_si : AreRegisters (Some Bp) (Some Si)
  bp_di : AreRegisters (Some Bp) (Some Di)

pub record IsAddress (ea : Ea) : Type 0 where
  pub registers : AreRegisters ea.base ea.index
  pub small : ea.disp < 65536

-- the register has halves with names
abbrev pub HasHalves : Reg → Type 0
HasHalves Ax = Unit {0}
HasHalves Cx = Unit {0}
HasHalves Dx = Unit {0}
HasHalves Bx = Unit {0}
HasHalves r = ⊥

-- a register or memory
abbrev pub IsPlace : Operand → Type 0
IsPlace (Word r) = Unit {0}
IsPlace (Byte r half) = HasHalves r
IsPlace (Seg number) = Unit {0}
IsPlace (Mem width ea) = IsAddress ea
IsPlace (Const width number) = ⊥

-- a register, memory or a constant
abbrev pub IsValue : Operand → Type 0
IsValue (Word r) = Unit {0}
IsValue (Byte r half) = HasHalves r
IsValue (Seg number) = Unit {0}
IsValue (Mem width ea) = IsAddress ea
IsValue (Const width number) = Unit {0}

abbrev pub IsCount : Count → Type 0
IsCount One = Unit {0}
IsCount Cl = Unit {0}
IsCount (ConstCount number) = number < 256

-- the operands have these forms
abbrev pub IsInForm : Op → Type 0
IsInForm (Alu operation a b) = IsPlace a × IsValue b
IsInForm (Unary operation a) = IsPlace a
IsInForm (Shift operation a count) = IsPlace a × IsCount count
IsInForm (Mov to from) = IsPlace to × IsValue from
IsInForm (Xchg a b) = IsPlace a × IsValue b
IsInForm (Lea r ea) = IsAddress ea
IsInForm (Imul3 r a constant) = IsPlace a
IsInForm (Push a) = IsValue a
IsInForm (Pop a) = IsValue a
IsInForm (Enter count) = count < 65536
IsInForm Leave = Unit {0}
IsInForm (Plain operation) = Unit {0}
IsInForm (Jump target) = target < 65536
IsInForm (Branch condition target) = target < 65536
IsInForm (Loop target) = target < 65536
IsInForm (LoopE target) = target < 65536
IsInForm (LoopNe target) = target < 65536
IsInForm (Jcxz target) = target < 65536
IsInForm (Table r offset) = offset < 65536
IsInForm (Call target) = target < 65536
IsInForm (Ret count) = count < 65536
IsInForm Int21 = Unit {0}

-- Operands of the rows -----------------------------------------------------------------------

pub value-of : (a : Operand) → IsPlace a → IsValue a
value-of (Word r) h = tt
value-of (Byte r half) h = h
value-of (Seg number) h = tt
value-of (Mem width ea) h = h
value-of (Const width number) h = absurd h

halves-of : (number : ℕ) → number < 4 → HasHalves (word_register number)
halves-of zero l = tt
halves-of (suc zero) l = tt
halves-of (suc (suc zero)) l = tt
halves-of (suc (suc (suc zero))) l = tt
halves-of (suc (suc (suc (suc n)))) l = absurd (omega arith)

register-place : (w : Width) (number : ℕ) → IsPlace (register w number)
register-place byte_width number = let below : number % 4 < 4 = omega arith in halves-of (number % 4) below
register-place word_width number = tt

registers-of : (direct : Bool) (number : ℕ) → number < 8 → (direct ≡ true → number ≡ 6)
    → AreRegisters (if direct then None else get_or base_registers number None) (get_or index_registers number None)
registers-of false zero l h = bx_si
registers-of false (suc zero) l h = bx_di
registers-of false (suc (suc zero)) l h = bp_si
registers-of false (suc (suc (suc zero))) l h = bp_di
registers-of false (suc (suc (suc (suc zero)))) l h = si
registers-of false (suc (suc (suc (suc (suc zero))))) l h = di
registers-of false (suc (suc (suc (suc (suc (suc zero)))))) l h = bp
registers-of false (suc (suc (suc (suc (suc (suc (suc zero))))))) l h = bx
registers-of true zero l h = absurd (let e = h refl in omega arith)
registers-of true (suc zero) l h = absurd (let e = h refl in omega arith)
registers-of true (suc (suc zero)) l h = absurd (let e = h refl in omega arith)
registers-of true (suc (suc (suc zero))) l h = absurd (let e = h refl in omega arith)
registers-of true (suc (suc (suc (suc zero)))) l h = absurd (let e = h refl in omega arith)
registers-of true (suc (suc (suc (suc (suc zero))))) l h = absurd (let e = h refl in omega arith)
registers-of true (suc (suc (suc (suc (suc (suc zero)))))) l h = none
registers-of true (suc (suc (suc (suc (suc (suc (suc zero))))))) l h = absurd (let e = h refl in omega arith)
registers-of direct (suc (suc (suc (suc (suc (suc (suc (suc n)))))))) l h = absurd (omega arith)

tested : (a b : ℕ) (c : Bool) → c && (a == b) ≡ true → a ≡ b
tested a b c h = grind (arith, nat_tests)

address-of : (modrm displacement : ℕ) → displacement < 65536 → IsAddress (address modrm displacement)
address-of modrm displacement l =
    let below : rm_field modrm < 8 = omega arith in
    record { registers = registers-of (has_direct_address modrm) (rm_field modrm) below (λ h. tested (rm_field modrm) 6 _ h); small = l }

rm-place : (w : Width) (modrm displacement : ℕ) → displacement < 65536 → IsPlace (rm_operand w modrm displacement)
rm-place w modrm displacement l =
    elim (mod_field modrm == 3) as (λ b. IsPlace (if b then register w (modrm % 8) else Mem w (address modrm displacement))) [
      | true ↦ register-place w (modrm % 8)
      | false ↦ address-of modrm displacement l
    ]

-- Rows ---------------------------------------------------------------------------------------

-- a constant is as small as its form makes it
abbrev IsConstant : ConstantForm → ℕ → Type 0
IsConstant no_constant constant = constant ≡ 0
IsConstant byte_constant constant = constant < 256
IsConstant word_constant constant = constant < 65536
IsConstant signed_constant constant = constant < 65536

record ArePartsOf (row : Row) (parts : Parts) : Type 0 where
  constant : IsConstant row.constant_form parts.constant
  displacement : parts.displacement < 65536

abbrev IsGood : Row → Type 0
IsGood row = (parts : Parts) → ArePartsOf row parts → IsInForm (row.operation parts)

infixr 30 ◌&◌
data AllGood : List Row → Type 0 where
  none_left : AllGood []
  ◌&◌ : {row : Row} {rows : List Row} → IsGood row → AllGood rows → AllGood (row ∷ rows)

all_good-get : (rows : List Row) (k : ℕ) (row : Row) → AllGood rows → slice_get rows k ≡ Some row → IsGood row
all_good-get [] k row good at = cc
all_good-get (r ∷ rows) zero row (first & rest) at = let same : r ≡ row = cc in subst IsGood same first
all_good-get (r ∷ rows) (suc k) row (first & rest) at = all_good-get rows k row rest at

all_good-append : (rows others : List Row) → AllGood rows → AllGood others → AllGood (rows ++ others)
all_good-append [] others good more = more
all_good-append (r ∷ rows) others (first & rest) more = first & all_good-append rows others rest more

rm_of : (p : Parts) → p.displacement < 65536 → IsPlace (rm p)
rm_of p l = rm-place (width_of p.opcode) p.modrm p.displacement l

rm8_of : (p : Parts) → p.displacement < 65536 → IsPlace (rm8 p)
rm8_of p l = rm-place byte_width p.modrm p.displacement l

rm16_of : (p : Parts) → p.displacement < 65536 → IsPlace (rm16 p)
rm16_of p l = rm-place word_width p.modrm p.displacement l

reg_of : (p : Parts) → IsPlace (reg p)
reg_of p = register-place (width_of p.opcode) (reg_field p.modrm)

reg_value : (p : Parts) → IsValue (reg p)
reg_value p = value-of (reg p) (reg_of p)

accumulator_of : (p : Parts) → IsPlace (accumulator p)
accumulator_of p = register-place (width_of p.opcode) 0

direct_of : (p : Parts) → p.constant < 65536 → IsPlace (direct p)
direct_of p l = record { registers = none; small = l }

either_order : (p : Parts) → p.displacement < 65536 → IsPlace (destination p) × IsValue (source p)
either_order p l =
    elim (p.opcode / 2 % 2 == 1) as (λ b. IsPlace (if b then reg p else rm p) × IsValue (if b then rm p else reg p)) [
      | true ↦ (reg_of p, value-of (rm p) (rm_of p l))
      | false ↦ (rm_of p l, reg_value p)
    ]

count_of : (by_cl : Bool) → IsCount (if by_cl then Cl else One)
count_of true = tt
count_of false = tt

shift_of : (p : Parts) → p.displacement < 65536 → IsPlace (rm p) × IsCount (if p.opcode / 2 % 2 == 1 then Cl else One)
shift_of p l = (rm_of p l, count_of (p.opcode / 2 % 2 == 1))

target_of : (p : Parts) → target p < 65536
target_of p = omega arith

arithmetic-good : AllGood arithmetic_rows
arithmetic-good =
    (λ p c. either_order p c.displacement)
    & (λ p c. (register-place byte_width 0, tt))
    & (λ p c. (tt, tt))
    & (λ p c. (rm8_of p c.displacement, tt))
    & (λ p c. (rm16_of p c.displacement, tt))
    & (λ p c. (rm16_of p c.displacement, tt))
    & (λ p c. (rm_of p c.displacement, reg_value p))
    & (λ p c. (accumulator_of p, tt))
    & (λ p c. (accumulator_of p, tt))
    & (λ p c. (rm_of p c.displacement, tt))
    & (λ p c. (rm_of p c.displacement, tt))
    & none_left

unary-good : AllGood unary_rows
unary-good =
    (λ p c. tt)
    & (λ p c. tt)
    & (λ p c. rm_of p c.displacement)
    & (λ p c. rm_of p c.displacement)
    & (λ p c. rm_of p c.displacement)
    & (λ p c. shift_of p c.displacement)
    & (λ p c. shift_of p c.displacement)
    & (λ p c. shift_of p c.displacement)
    & (λ p c. shift_of p c.displacement)
    & none_left

stack-good : AllGood stack_rows
stack-good =
    (λ p c. tt)
    & (λ p c. tt)
    & (λ p c. tt)
    & (λ p c. tt)
    & (λ p c. value-of (rm16 p) (rm16_of p c.displacement))
    & (λ p c. value-of (rm16 p) (rm16_of p c.displacement))
    & (λ p c. value-of (rm16 p) (rm16_of p c.displacement))
    & (λ p c. value-of (rm16 p) (rm16_of p c.displacement))
    & (λ p c. value-of (rm16 p) (rm16_of p c.displacement))
    & (λ p c. value-of (rm16 p) (rm16_of p c.displacement))
    & none_left

move-good : AllGood move_rows
move-good =
    (λ p c. (rm_of p c.displacement, reg_value p))
    & (λ p c. (tt, tt))
    & (λ p c. either_order p c.displacement)
    & (λ p c. (rm16_of p c.displacement, tt))
    & (λ p c. (tt, value-of (rm16 p) (rm16_of p c.displacement)))
    & (λ p c. (tt, value-of (rm16 p) (rm16_of p c.displacement)))
    & (λ p c. address-of p.modrm p.displacement c.displacement)
    & (λ p c. (accumulator_of p, value-of (direct p) (direct_of p c.constant)))
    & (λ p c. (direct_of p c.constant, value-of (accumulator p) (accumulator_of p)))
    & (λ p c. (register-place byte_width (p.opcode % 8), tt))
    & (λ p c. (tt, tt))
    & (λ p c. (rm_of p c.displacement, tt))
    & (λ p c. (rm_of p c.displacement, tt))
    & none_left

control-good : AllGood control_rows
control-good =
    (λ p c. target_of p)
    & (λ p c. target_of p)
    & (λ p c. target_of p)
    & (λ p c. target_of p)
    & (λ p c. target_of p)
    & (λ p c. target_of p)
    & (λ p c. target_of p)
    & (λ p c. target_of p)
    & (λ p c. target_of p)
    & (λ p c. c.constant)
    & (λ p c. omega arith)
    & (λ p c. tt)
    & (λ p c. c.constant)
    & (λ p c. c.constant)
    & (λ p c. c.constant)
    & none_left

plain-good : AllGood plain_rows
plain-good =
    (λ p c. tt) & (λ p c. tt) & (λ p c. tt) & (λ p c. tt) & (λ p c. tt)
    & (λ p c. tt) & (λ p c. tt) & (λ p c. tt) & (λ p c. tt) & (λ p c. tt)
    & none_left

later-good : AllGood later_rows
later-good =
    (λ p c. tt)
    & (λ p c. tt)
    & (λ p c. rm16_of p c.displacement)
    & (λ p c. rm16_of p c.displacement)
    & (λ p c. (rm_of p c.displacement, c.constant))
    & (λ p c. (rm_of p c.displacement, c.constant))
    & (λ p c. (rm_of p c.displacement, c.constant))
    & (λ p c. c.constant)
    & (λ p c. tt)
    & none_left

besides-good : (cpu : Cpu) → AllGood (rows_besides cpu)
besides-good I8086 = none_left
besides-good I186 = later-good

table-good : (cpu : Cpu) → AllGood (table cpu)
unfolding table
table-good cpu =
    all_good-append arithmetic_rows _ arithmetic-good
    (all_good-append unary_rows _ unary-good
    (all_good-append stack_rows _ stack-good
    (all_good-append move_rows _ move-good
    (all_good-append control_rows _ control-good
    (all_good-append plain_rows _ plain-good (besides-good cpu))))))

-- The parts of an instruction ----------------------------------------------------------------

abbrev AreBytes : List ℕ → Type 0
AreBytes bytes = (i : ℕ) → byte_at bytes i < 256

extension-below : (byte : ℕ) → sign_extension_of byte < 65536
unfolding sign_extension_of
extension-below byte = wrapped_below word_width (signed_of byte_width byte)

word-below : (bytes : List ℕ) (index : ℕ) → AreBytes bytes → word_at bytes index < 65536
unfolding word_at
word-below bytes index bs = omega (arith, bs index, bs (index + 1))

constant-fits : (form : ConstantForm) (bytes : List ℕ) (index : ℕ) → AreBytes bytes → IsConstant form (constant_at form bytes index)
constant-fits no_constant bytes index bs = refl
constant-fits byte_constant bytes index bs = bs index
constant-fits word_constant bytes index bs = word-below bytes index bs
constant-fits signed_constant bytes index bs = extension-below (byte_at bytes index)

displacement-below : (modrm : ℕ) (bytes : List ℕ) (index : ℕ) → AreBytes bytes → displacement_at modrm bytes index < 65536
displacement-below modrm bytes index bs =
    by (mod_field modrm == 1) ((mod_field modrm == 2) || has_direct_address modrm)
  where
    by : (one two : Bool) → (if one then sign_extension_of (byte_at bytes index) else if two then word_at bytes index else 0) < 65536
    by true two = extension-below (byte_at bytes index)
    by false true = word-below bytes index bs
    by false false = omega arith

parts-of : (row : Row) (offset : ℕ) (bytes : List ℕ) → AreBytes bytes → ArePartsOf row (row_parts row offset bytes)
parts-of row offset bytes bs = record {
  constant = constant-fits row.constant_form bytes (constant_index row.constant_place (head_length row bytes)) bs;
  displacement = elim (row.has_modrm) as (λ b. (if b then displacement_at (byte_at bytes 1) bytes (length row.pattern) else 0) < 65536) [
    | true ↦ displacement-below (byte_at bytes 1) bytes (length row.pattern) bs
    | false ↦ omega arith
  ];
}

-- the operands of an operation of the table have these forms
pub operation-in_form : (cpu : Cpu) (offset : ℕ) (bytes : List ℕ) (instr : Instr) → AreBytes bytes → instruction_at cpu offset bytes ≡ Some instr → IsInForm instr.op
operation-in_form cpu offset bytes instr bs e =
    let found = instruction-row cpu offset bytes instr e in
    let row = found.0 in
    let good : IsGood row = all_good-get (table cpu) found.1.0 row (table-good cpu) found.1.1 in
    let well : IsInForm (row_instruction row offset bytes).op = good (row_parts row offset bytes) (parts-of row offset bytes bs) in
    subst (λ (i : Instr). IsInForm i.op) found.3 well
