-- Which halves of the word registers and which flags an operation may write (8086 Family User's Manual, table 2-21;
-- iAPX 86/88, 186/188 User's Manual, Programmer's Reference). What it doesn't write stays as it was.
use Rattle.std.specs.Prelude.{◌%◌, ◌==◌, Bool, true, false, not, ◌&&◌, ◌||◌}
use Rattle.dcc_num.specs.declared.Width.{Width}
use Rattle.dcc_num.specs.declared.Width.TheVariants.{Byte as byte_width, Word as word_width}
use Rattle.dcc_num.specs.declared.Reg.{Reg}
use Rattle.dcc_num.specs.declared.Reg.TheVariants.{Ax, Cx, Dx, Sp, Bp}
use Rattle.dcc_num.specs.declared.Half.{Half}
use Rattle.dcc_num.specs.declared.Half.TheVariants.{Low, High}
use Rattle.dcc_num.specs.declared.FlagName.{FlagName}
use Rattle.dcc_num.specs.declared.FlagName.TheVariants.{Cf, Of}
use Rattle.dcc_machine.specs.declared.instr.Alu.{Alu}
use Rattle.dcc_machine.specs.declared.instr.Alu.TheVariants.{Cmp, Test}
use Rattle.dcc_machine.specs.declared.instr.Shift.{Shift}
use Rattle.dcc_machine.specs.declared.instr.Shift.TheVariants.{Shl, Shr, Sar}
use Rattle.dcc_machine.specs.declared.instr.Count.{Count}
use Rattle.dcc_machine.specs.declared.instr.Count.TheVariants.{Const as ConstCount}
use Rattle.dcc_machine.specs.declared.instr.Unary.{Unary}
use Rattle.dcc_machine.specs.declared.instr.Unary.TheVariants.{Inc, Dec, Not, Mul, Imul, Div, Idiv}
use Rattle.dcc_machine.specs.declared.instr.Plain.{Plain}
use Rattle.dcc_machine.specs.declared.instr.Plain.TheVariants.{Cbw, Cwd, Xlat, Clc, Stc, Cmc}
use Rattle.dcc_machine.specs.declared.instr.Operand.{Operand}
use Rattle.dcc_machine.specs.declared.instr.Operand.TheVariants.{Word, Byte}
use Rattle.dcc_machine.specs.declared.instr.Op.{Op}
use Rattle.dcc_machine.specs.declared.instr.Op.TheVariants.{Alu as AluOp, Unary as UnaryOp, Shift as ShiftOp, Mov, Xchg}
use Rattle.dcc_machine.specs.declared.instr.Op.TheVariants.{Lea, Imul3, Push, Pop, Enter, Leave, Plain as PlainOp, Loop}
use Rattle.dcc_machine.specs.declared.instr.Op.TheVariants.{LoopE, LoopNe, Call, Ret, Int21}
use Rattle.dcc_machine.specs.Machine.{reg_number, operand_width}

abbrev pub is_same_register : Reg → Reg → Bool
is_same_register r q = reg_number r == reg_number q

abbrev pub is_same_half : Half → Half → Bool
is_same_half Low Low = true
is_same_half High High = true
is_same_half half other = false

-- Halves of registers.

-- the half is the operand or one of its two bytes
abbrev pub is_half_of : Reg → Half → Operand → Bool
is_half_of r half (Word q) = is_same_register r q
is_half_of r half (Byte q other) = is_same_register r q && is_same_half half other
is_half_of r half operand = false

-- CMP and TEST write no operand
abbrev pub writes_operand : Alu → Bool
writes_operand Cmp = false
writes_operand Test = false
writes_operand operation = true

-- a product or a quotient takes AX, and DX too where the operand is a word
abbrev pub is_in_pair : Width → Reg → Bool
is_in_pair byte_width r = is_same_register r Ax
is_in_pair word_width r = is_same_register r Ax || is_same_register r Dx

abbrev pub unary_writes_half : Unary → Operand → Reg → Half → Bool
unary_writes_half Mul a r half = is_in_pair (operand_width a) r
unary_writes_half Imul a r half = is_in_pair (operand_width a) r
unary_writes_half Div a r half = is_in_pair (operand_width a) r
unary_writes_half Idiv a r half = is_in_pair (operand_width a) r
unary_writes_half operation a r half = is_half_of r half a

-- CBW writes AH, CWD DX, XLAT AL
abbrev pub plain_writes_half : Plain → Reg → Half → Bool
plain_writes_half Cbw r half = is_same_register r Ax && is_same_half half High
plain_writes_half Cwd r half = is_same_register r Dx
plain_writes_half Xlat r half = is_same_register r Ax && is_same_half half Low
plain_writes_half operation r half = false

-- the operation may write that half of the register; a CALL may write all, for its procedure does, and INT 21h
-- writes AL
abbrev pub writes_half : Op → Reg → Half → Bool
writes_half (AluOp operation a b) r half = writes_operand operation && is_half_of r half a
writes_half (UnaryOp operation a) r half = unary_writes_half operation a r half
writes_half (ShiftOp operation a count) r half = is_half_of r half a
writes_half (Mov to from) r half = is_half_of r half to
writes_half (Xchg a b) r half = is_half_of r half a || is_half_of r half b
writes_half (Lea to ea) r half = is_same_register r to
writes_half (Imul3 to a constant) r half = is_same_register r to
writes_half (Push a) r half = is_same_register r Sp
writes_half (Pop a) r half = is_same_register r Sp || is_half_of r half a
writes_half (Enter count) r half = is_same_register r Sp || is_same_register r Bp
writes_half Leave r half = is_same_register r Sp || is_same_register r Bp
writes_half (PlainOp operation) r half = plain_writes_half operation r half
writes_half (Loop target) r half = is_same_register r Cx
writes_half (LoopE target) r half = is_same_register r Cx
writes_half (LoopNe target) r half = is_same_register r Cx
writes_half (Call target) r half = true
writes_half (Ret count) r half = is_same_register r Sp
writes_half Int21 r half = is_same_register r Ax && is_same_half half Low
writes_half op r half = false

-- Flags.

abbrev pub is_carry : FlagName → Bool
is_carry Cf = true
is_carry flag = false

-- INC and DEC leave the carry, NOT leaves all
abbrev pub unary_writes_flag : Unary → FlagName → Bool
unary_writes_flag Inc Cf = false
unary_writes_flag Dec Cf = false
unary_writes_flag Not flag = false
unary_writes_flag operation flag = true

abbrev pub is_carry_or_overflow : FlagName → Bool
is_carry_or_overflow Cf = true
is_carry_or_overflow Of = true
is_carry_or_overflow flag = false

-- by a constant that is 0 modulo 32 nothing is shifted
abbrev pub never_shifts : Count → Bool
never_shifts (ConstCount number) = number % 32 == 0
never_shifts count = false

-- a rotate writes the carry and the overflow; by a count of 0 no flag changes
abbrev pub shift_writes_flag : Shift → FlagName → Bool
shift_writes_flag Shl flag = true
shift_writes_flag Shr flag = true
shift_writes_flag Sar flag = true
shift_writes_flag rotate flag = is_carry_or_overflow flag

abbrev pub plain_writes_flag : Plain → FlagName → Bool
plain_writes_flag Clc flag = is_carry flag
plain_writes_flag Stc flag = is_carry flag
plain_writes_flag Cmc flag = is_carry flag
plain_writes_flag operation flag = false

-- the operation may write the flag; a CALL may write all
abbrev pub writes_flag : Op → FlagName → Bool
writes_flag (AluOp operation a b) flag = true
writes_flag (UnaryOp operation a) flag = unary_writes_flag operation flag
writes_flag (ShiftOp operation a count) flag = shift_writes_flag operation flag && not (never_shifts count)
writes_flag (Imul3 r a constant) flag = true
writes_flag (PlainOp operation) flag = plain_writes_flag operation flag
writes_flag (Call target) flag = true
writes_flag op flag = false
