-- What an operation uses for a jump, a store, a division or a DOS call, what it makes of what, and what it surely
-- writes, of the halves of the word registers and the flags: by that it is told which of them are wanted before an
-- instruction (liveness by demand, after C. Cifuentes, Reverse Compilation Techniques, 1994, section 5.4).
use Rattle.std.specs.Prelude.{ℕ, ◌==◌, Bool, true, false, not, ◌&&◌, ◌||◌, if◌then◌else◌, Option, Some, None}
use Rattle.dcc_num.specs.declared.Width.{Width}
use Rattle.dcc_num.specs.declared.Width.TheVariants.{Byte as byte_width, Word as word_width}
use Rattle.dcc_num.specs.declared.Reg.{Reg}
use Rattle.dcc_num.specs.declared.Reg.TheVariants.{Ax, Cx, Dx, Bx}
use Rattle.dcc_num.specs.declared.Half.{Half}
use Rattle.dcc_num.specs.declared.Half.TheVariants.{Low, High}
use Rattle.dcc_num.specs.declared.dos.TheConstants.{GETCHE, PUTC, GETCH, PUTS, EXIT}
use Rattle.dcc_num.specs.declared.FlagName.{FlagName}
use Rattle.dcc_num.specs.declared.FlagName.TheVariants.{Cf, Zf, Sf, Of}
use Rattle.dcc_machine.specs.declared.instr.Alu.{Alu}
use Rattle.dcc_machine.specs.declared.instr.Alu.TheVariants.{Adc, Sbb, And, Sub, Or, Xor, Test}
use Rattle.dcc_machine.specs.declared.instr.Shift.{Shift}
use Rattle.dcc_machine.specs.declared.instr.Shift.TheVariants.{Rcl, Rcr, Sar}
use Rattle.dcc_machine.specs.declared.instr.Count.{Count}
use Rattle.dcc_machine.specs.declared.instr.Count.TheVariants.{Cl}
use Rattle.dcc_machine.specs.declared.instr.Unary.{Unary}
use Rattle.dcc_machine.specs.declared.instr.Unary.TheVariants.{Mul, Imul, Div, Idiv}
use Rattle.dcc_machine.specs.declared.instr.Cond.{Cond}
use Rattle.dcc_machine.specs.declared.instr.Cond.TheVariants.{O, No, B, Ae, Z, Nz, Be, A, S, Ns, L, Ge, Le, G}
use Rattle.dcc_machine.specs.declared.instr.Plain.{Plain}
use Rattle.dcc_machine.specs.declared.instr.Plain.TheVariants.{Cbw, Cwd, Xlat, Cmc}
use Rattle.dcc_machine.specs.declared.instr.Ea.{Ea}
use Rattle.dcc_machine.specs.declared.instr.Operand.{Operand}
use Rattle.dcc_machine.specs.declared.instr.Operand.TheVariants.{Word, Byte, Mem}
use Rattle.dcc_machine.specs.declared.instr.Op.{Op}
use Rattle.dcc_machine.specs.declared.instr.Op.TheVariants.{Alu as AluOp, Unary as UnaryOp, Shift as ShiftOp, Mov, Xchg}
use Rattle.dcc_machine.specs.declared.instr.Op.TheVariants.{Lea, Imul3, Pop, Plain as PlainOp, Branch, Loop, LoopE}
use Rattle.dcc_machine.specs.declared.instr.Op.TheVariants.{LoopNe, Jcxz, Table, Int21}
use Rattle.dcc_machine.specs.Machine.{operand_width, is_general}
use Rattle.dcc_machine.specs.Operations.{is_division}
use Rattle.dcc_machine.specs.Writes.{is_same_register, is_same_half, is_half_of, writes_operand, is_in_pair}
use Rattle.dcc_machine.specs.Writes.{is_carry_or_overflow, unary_writes_flag, shift_writes_flag, never_shifts}
use Rattle.dcc_machine.specs.Writes.{writes_half, writes_flag}

-- a half of a word register, or a flag
pub data Location : Type 0 where
  half_of : Reg → Half → Location
  flag_of : FlagName → Location

-- What operands read.

-- the location is a part of the operand
abbrev pub is_part : Location → Operand → Bool
is_part (half_of r half) operand = is_half_of r half operand
is_part (flag_of flag) operand = false

-- the location is a half of the register
abbrev pub is_half : Location → Reg → Bool
is_half (half_of r half) q = is_same_register r q
is_half (flag_of flag) q = false

abbrev pub is_half_of_some : Location → Option Reg → Bool
is_half_of_some location None = false
is_half_of_some location (Some r) = is_half location r

-- the location takes part in the address: it is a half of its base or of its index
abbrev pub is_in_address : Location → Ea → Bool
is_in_address location ea = is_half_of_some location ea.base || is_half_of_some location ea.index

abbrev pub is_in_address_of : Location → Operand → Bool
is_in_address_of location (Mem width ea) = is_in_address location ea
is_in_address_of location operand = false

-- the location is read with the operand: it is the operand or a part of it, or takes part in its address
abbrev pub is_read : Location → Operand → Bool
is_read location operand = is_part location operand || is_in_address_of location operand

abbrev pub is_flag : FlagName → Location → Bool
is_flag Cf (flag_of Cf) = true
is_flag Zf (flag_of Zf) = true
is_flag Sf (flag_of Sf) = true
is_flag Of (flag_of Of) = true
is_flag flag location = false

-- AL, and the accumulator of a width: AL or AX
abbrev pub is_al : Location → Bool
is_al (half_of r half) = is_same_register r Ax && is_same_half half Low
is_al location = false

abbrev pub is_accumulator : Width → Location → Bool
is_accumulator byte_width location = is_al location
is_accumulator word_width location = is_half location Ax

-- What is made of what: the value that an operation gives the first location is made of that of the second.

-- CF and OF of AND, OR, XOR and TEST are constants
abbrev pub is_logic : Alu → Bool
is_logic And = true
is_logic Or = true
is_logic Xor = true
is_logic Test = true
is_logic operation = false

abbrev pub takes_carry : Alu → Bool
takes_carry Adc = true
takes_carry Sbb = true
takes_carry operation = false

-- the two operands are one general register, or one half of such a register
abbrev pub is_same_general : Operand → Operand → Bool
is_same_general (Word r) (Word q) = is_general r && is_same_register r q
is_same_general (Byte r half) (Byte q other) = is_general r && (is_same_register r q && is_same_half half other)
is_same_general a b = false

-- XOR and SUB of a general register, or of a half of one, with itself: the result is 0 whatever it held, and the flags
-- are constants
abbrev pub is_zeroing : Alu → Operand → Operand → Bool
is_zeroing Xor a b = is_same_general a b
is_zeroing Sub a b = is_same_general a b
is_zeroing operation a b = false

-- an operation on two operands gives the location a value that is no constant
abbrev pub alu_makes : Alu → Operand → Location → Bool
alu_makes operation a (half_of r half) = writes_operand operation && is_half_of r half a
alu_makes operation a (flag_of flag) = not (is_logic operation && is_carry_or_overflow flag)

-- an operation on one operand gives the location a value that is no constant; ZF and SF of a product are constants
abbrev pub unary_makes : Unary → Operand → Location → Bool
unary_makes Mul a (half_of r half) = is_in_pair (operand_width a) r
unary_makes Imul a (half_of r half) = is_in_pair (operand_width a) r
unary_makes Mul a (flag_of flag) = is_carry_or_overflow flag
unary_makes Imul a (flag_of flag) = is_carry_or_overflow flag
unary_makes Div a location = false
unary_makes Idiv a location = false
unary_makes operation a (half_of r half) = is_half_of r half a
unary_makes operation a (flag_of flag) = unary_writes_flag operation flag

-- a product is made of the accumulator too
abbrev pub unary_reads : Unary → Operand → Location → Bool
unary_reads Mul a from = is_accumulator (operand_width a) from || is_read from a
unary_reads Imul a from = is_accumulator (operand_width a) from || is_read from a
unary_reads operation a from = is_read from a

abbrev pub is_cl : Location → Bool
is_cl (half_of r half) = is_same_register r Cx && is_same_half half Low
is_cl location = false

-- RCL and RCR, which are by one place
abbrev pub is_through_carry : Shift → Bool
is_through_carry Rcl = true
is_through_carry Rcr = true
is_through_carry operation = false

abbrev pub is_in_cl : Count → Bool
is_in_cl Cl = true
is_in_cl count = false

-- a shift or rotate takes its count from CL; RCL and RCR, which go by one place, don't
abbrev pub is_by_cl : Shift → Count → Bool
is_by_cl operation count = is_in_cl count && not (is_through_carry operation)

-- OF of SAR is a constant
abbrev pub is_constant_flag : Shift → FlagName → Bool
is_constant_flag Sar Of = true
is_constant_flag operation flag = false

-- RCL and RCR bring CF into the result, and so into OF, but not into the new CF
abbrev pub brings_carry : Shift → Location → Bool
brings_carry operation (half_of r half) = is_through_carry operation
brings_carry operation (flag_of Of) = is_through_carry operation
brings_carry operation to = false

-- the value that a shift or rotate gives the location is made of the operand
abbrev pub shift_reads : Shift → Location → Bool
shift_reads operation (half_of r half) = true
shift_reads operation (flag_of flag) = not (is_constant_flag operation flag)

abbrev pub shift_writes : Shift → Operand → Count → Location → Bool
shift_writes operation a count (half_of r half) = is_half_of r half a
shift_writes operation a count (flag_of flag) = shift_writes_flag operation flag && not (never_shifts count)

abbrev pub shift_makes : Shift → Operand → Count → Location → Location → Bool
shift_makes operation a count to from =
    shift_writes operation a count to
    && ((shift_reads operation to && is_read from a)
    || ((is_by_cl operation count && is_cl from)
    || (brings_carry operation to && is_flag Cf from)))

-- the value that MOV gives the first location is made of that of the second; between registers MOV goes half by half
abbrev pub moves : Operand → Operand → Location → Location → Bool
moves (Word r) (Word q) (half_of t half) (half_of s other) =
    is_same_register t r && (is_same_register s q && is_same_half half other)
moves (Byte r half) (Byte q other) (half_of t k) (half_of s j) =
    (is_same_register t r && is_same_half k half) && (is_same_register s q && is_same_half j other)
moves to from location other = is_part location to && is_in_address_of other from

abbrev pub plain_makes : Plain → Location → Location → Bool
plain_makes Cbw (half_of r half) from = (is_same_register r Ax && is_same_half half High) && is_al from
plain_makes Cwd (half_of r half) from = is_same_register r Dx && is_half from Ax
plain_makes Xlat (half_of r half) from =
    (is_same_register r Ax && is_same_half half Low) && (is_al from || is_half from Bx)
plain_makes Cmc (flag_of Cf) from = is_flag Cf from
plain_makes operation to from = false

-- LOOP and its like make each half of CX of both its halves
abbrev pub counts : Location → Location → Bool
counts to from = is_half to Cx && is_half from Cx

-- the product of an operand and a constant: the register, CF and OF are made of the operand; ZF and SF are constants
abbrev pub triple_product_makes : Reg → Operand → Location → Location → Bool
triple_product_makes q a (half_of r half) from = is_same_register r q && is_read from a
triple_product_makes q a (flag_of flag) from = is_carry_or_overflow flag && is_read from a

-- the value that the operation gives the first location is made of that of the second
abbrev pub makes : Op → Location → Location → Bool
makes (AluOp operation a b) to from =
    not (is_zeroing operation a b)
    && (alu_makes operation a to && (is_read from a || (is_read from b || (takes_carry operation && is_flag Cf from))))
makes (UnaryOp operation a) to from = unary_makes operation a to && unary_reads operation a from
makes (ShiftOp operation a count) to from = shift_makes operation a count to from
makes (Mov to_operand operand) to from = moves to_operand operand to from
makes (Xchg a b) to from = moves a b to from || moves b a to from
makes (Lea r ea) to from = is_half to r && is_in_address from ea
makes (Imul3 r a constant) to from = triple_product_makes r a to from
makes (PlainOp operation) to from = plain_makes operation to from
makes (Loop target) to from = counts to from
makes (LoopE target) to from = counts to from
makes (LoopNe target) to from = counts to from
makes op to from = false

-- Uses.

abbrev pub condition_uses : Cond → Location → Bool
condition_uses O location = is_flag Of location
condition_uses No location = is_flag Of location
condition_uses B location = is_flag Cf location
condition_uses Ae location = is_flag Cf location
condition_uses Z location = is_flag Zf location
condition_uses Nz location = is_flag Zf location
condition_uses Be location = is_flag Cf location || is_flag Zf location
condition_uses A location = is_flag Cf location || is_flag Zf location
condition_uses S location = is_flag Sf location
condition_uses Ns location = is_flag Sf location
condition_uses L location = is_flag Sf location || is_flag Of location
condition_uses Ge location = is_flag Sf location || is_flag Of location
condition_uses Le location = is_flag Zf location || (is_flag Sf location || is_flag Of location)
condition_uses G location = is_flag Zf location || (is_flag Sf location || is_flag Of location)

-- the operand lies in memory
abbrev pub is_in_memory : Operand → Bool
is_in_memory (Mem width ea) = true
is_in_memory operand = false

abbrev pub is_dl : Location → Bool
is_dl (half_of r half) = is_same_register r Dx && is_same_half half Low
is_dl location = false

-- what a DOS call of that number takes: 02h DL, 09h DX, 4Ch AL
abbrev pub dos_uses : Option ℕ → Location → Bool
dos_uses None location = false
dos_uses (Some number) location =
    if number == PUTC then is_dl location
    else if number == PUTS then is_half location Dx
    else if number == EXIT then is_al location
    else false

-- the location is a half of what a division divides, AX, or DX and AX. All of it changes what the step of a division
-- does, so it counts here as used. For what is wanted before a division dcc_machine_demand counts less, the operand
-- and the lower half of the dividend alone: of an accepted program the upper half is told by the lower one.
abbrev pub is_dividend : Width → Location → Bool
is_dividend byte_width location = is_half location Ax
is_dividend word_width location = is_half location Ax || is_half location Dx

-- an operation on one operand stores its result into that operand; a product goes to AX and DX
abbrev pub stores_back : Unary → Bool
stores_back Mul = false
stores_back Imul = false
stores_back operation = true

abbrev pub unary_uses : Unary → Operand → Location → Bool
unary_uses operation a location =
    if is_division operation then is_dividend (operand_width a) location || is_read location a
    else (is_in_memory a && stores_back operation) && is_read location a

-- What an operation uses for a jump, a store, a division or a DOS call, whose number is given: where two states agree
-- in all of it, their steps show no difference. A division counts with the whole of its dividend here; `value_uses` of
-- dcc_machine_demand, which tells what is wanted, counts the lower half alone.
abbrev pub uses : Op → Option ℕ → Location → Bool
uses (AluOp operation a b) number location =
    (is_in_memory a && writes_operand operation)
    && (is_read location a || (is_read location b || (takes_carry operation && is_flag Cf location)))
uses (UnaryOp operation a) number location = unary_uses operation a location
uses (ShiftOp operation a count) number location =
    is_in_memory a
    && (is_read location a
    || ((is_by_cl operation count && is_cl location) || (is_through_carry operation && is_flag Cf location)))
uses (Mov to from) number location = is_in_memory to && (is_in_address_of location to || is_read location from)
uses (Xchg a b) number location = (is_in_memory a || is_in_memory b) && (is_read location a || is_read location b)
uses (Pop a) number location = is_in_address_of location a
uses (Branch condition target) number location = condition_uses condition location
uses (Loop target) number location = is_half location Cx
uses (LoopE target) number location = is_half location Cx || is_flag Zf location
uses (LoopNe target) number location = is_half location Cx || is_flag Zf location
uses (Jcxz target) number location = is_half location Cx
uses (Table r offset) number location = is_half location r
uses Int21 number location = dos_uses number location
uses op number location = false

-- What is surely written.

-- a DOS call of this number gives a byte in AL: 01h or 08h
abbrev pub gives_byte : Option ℕ → Bool
gives_byte None = false
gives_byte (Some number) = (number == GETCHE) || (number == GETCH)

abbrev pub surely_writes_half : Op → Option ℕ → Reg → Half → Bool
surely_writes_half Int21 number r half = gives_byte number && writes_half Int21 r half
surely_writes_half op number r half = writes_half op r half

-- The flag is written whatever the operation finds: a shift or rotate by CL leaves the flags where the count is 0, as
-- one by a constant that is 0 modulo 32 does.
abbrev pub surely_writes_flag : Op → FlagName → Bool
surely_writes_flag (ShiftOp operation a count) flag =
    writes_flag (ShiftOp operation a count) flag && not (is_by_cl operation count)
surely_writes_flag op flag = writes_flag op flag

abbrev pub surely_writes : Op → Option ℕ → Location → Bool
surely_writes op number (half_of r half) = surely_writes_half op number r half
surely_writes op number (flag_of flag) = surely_writes_flag op flag
