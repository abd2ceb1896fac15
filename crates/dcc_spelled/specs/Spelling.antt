-- How an operation is spelled: its mnemonic in lower case, then a space and the operands with commas between them
-- (8086 Family User's Manual, table 2-21; iAPX 86/88, 186/188 User's Manual, Programmer's Reference).
use Rattle.std.specs.Prelude.{ℕ, zero, suc, List, [], ◌∷◌, ◌++◌, Option, Some, None, codes}
use Rattle.std.specs.List.{join_with_byte}
use Rattle.dcc_num.specs.declared.Reg.{Reg}
use Rattle.dcc_num.specs.declared.Reg.TheVariants.{Ax, Cx, Dx, Bx, Sp, Bp, Si, Di}
use Rattle.dcc_num.specs.declared.Half.{Half}
use Rattle.dcc_num.specs.declared.Half.TheVariants.{Low, High}
use Rattle.dcc_num.specs.declared.Width.{Width}
use Rattle.dcc_num.specs.declared.Width.TheVariants.{Byte as byte_width, Word as word_width}
use Rattle.dcc_machine.specs.declared.instr.Alu.{Alu}
use Rattle.dcc_machine.specs.declared.instr.Alu.TheVariants.{Add, Or, Adc, Sbb, And, Sub, Xor, Cmp, Test}
use Rattle.dcc_machine.specs.declared.instr.Shift.{Shift}
use Rattle.dcc_machine.specs.declared.instr.Shift.TheVariants.{Rol, Ror, Rcl, Rcr, Shl, Shr, Sar}
use Rattle.dcc_machine.specs.declared.instr.Count.{Count}
use Rattle.dcc_machine.specs.declared.instr.Count.TheVariants.{One, Cl, Const as ConstCount}
use Rattle.dcc_machine.specs.declared.instr.Unary.{Unary}
use Rattle.dcc_machine.specs.declared.instr.Unary.TheVariants.{Inc, Dec, Neg, Not, Mul, Imul, Div, Idiv}
use Rattle.dcc_machine.specs.declared.instr.Cond.{Cond}
use Rattle.dcc_machine.specs.declared.instr.Cond.TheVariants.{O, No, B, Ae, Z, Nz, Be, A, S, Ns, L, Ge, Le, G}
use Rattle.dcc_machine.specs.declared.instr.Plain.{Plain}
use Rattle.dcc_machine.specs.declared.instr.Plain.TheVariants.{Nop, Cbw, Cwd, Xlat, Clc, Stc, Cmc, Cli, Sti, Cld}
use Rattle.dcc_machine.specs.declared.instr.Ea.{Ea}
use Rattle.dcc_machine.specs.declared.instr.Operand.{Operand}
use Rattle.dcc_machine.specs.declared.instr.Operand.TheVariants.{Word, Byte, Seg, Mem, Const}
use Rattle.dcc_machine.specs.declared.instr.Op.{Op}
use Rattle.dcc_machine.specs.declared.instr.Op.TheVariants.{Alu as AluOp, Unary as UnaryOp, Shift as ShiftOp, Mov}
use Rattle.dcc_machine.specs.declared.instr.Op.TheVariants.{Xchg}
use Rattle.dcc_machine.specs.declared.instr.Op.TheVariants.{Lea, Imul3, Push, Pop, Enter, Leave, Plain as PlainOp}
use Rattle.dcc_machine.specs.declared.instr.Op.TheVariants.{Jump}
use Rattle.dcc_machine.specs.declared.instr.Op.TheVariants.{Branch, Loop, LoopE, LoopNe, Jcxz, Table, Call, Ret}
use Rattle.dcc_machine.specs.declared.instr.Op.TheVariants.{Int21}
use Rattle.dcc_spelled.specs.Hex.{hex_byte, hex_word}

-- Mnemonics ----------------------------------------------------------------------------------

abbrev pub alu_name : Alu → List ℕ
alu_name Add = codes "add"
alu_name Or = codes "or"
alu_name Adc = codes "adc"
alu_name Sbb = codes "sbb"
alu_name And = codes "and"
alu_name Sub = codes "sub"
alu_name Xor = codes "xor"
alu_name Cmp = codes "cmp"
alu_name Test = codes "test"

abbrev pub unary_name : Unary → List ℕ
unary_name Inc = codes "inc"
unary_name Dec = codes "dec"
unary_name Neg = codes "neg"
unary_name Not = codes "not"
unary_name Mul = codes "mul"
unary_name Imul = codes "imul"
unary_name Div = codes "div"
unary_name Idiv = codes "idiv"

abbrev pub shift_name : Shift → List ℕ
shift_name Rol = codes "rol"
shift_name Ror = codes "ror"
shift_name Rcl = codes "rcl"
shift_name Rcr = codes "rcr"
shift_name Shl = codes "shl"
shift_name Shr = codes "shr"
shift_name Sar = codes "sar"

abbrev pub plain_name : Plain → List ℕ
plain_name Nop = codes "nop"
plain_name Cbw = codes "cbw"
plain_name Cwd = codes "cwd"
plain_name Xlat = codes "xlat"
plain_name Clc = codes "clc"
plain_name Stc = codes "stc"
plain_name Cmc = codes "cmc"
plain_name Cli = codes "cli"
plain_name Sti = codes "sti"
plain_name Cld = codes "cld"

abbrev pub branch_name : Cond → List ℕ
branch_name O = codes "jo"
branch_name No = codes "jno"
branch_name B = codes "jb"
branch_name Ae = codes "jae"
branch_name Z = codes "jz"
branch_name Nz = codes "jnz"
branch_name Be = codes "jbe"
branch_name A = codes "ja"
branch_name S = codes "js"
branch_name Ns = codes "jns"
branch_name L = codes "jl"
branch_name Ge = codes "jge"
branch_name Le = codes "jle"
branch_name G = codes "jg"

abbrev pub mnemonic : Op → List ℕ
mnemonic (AluOp operation a b) = alu_name operation
mnemonic (UnaryOp operation a) = unary_name operation
mnemonic (ShiftOp operation a count) = shift_name operation
mnemonic (Mov to from) = codes "mov"
mnemonic (Xchg a b) = codes "xchg"
mnemonic (Lea r ea) = codes "lea"
mnemonic (Imul3 r a constant) = codes "imul"
mnemonic (Push a) = codes "push"
mnemonic (Pop a) = codes "pop"
mnemonic (Enter count) = codes "enter"
mnemonic Leave = codes "leave"
mnemonic (PlainOp operation) = plain_name operation
mnemonic (Jump target) = codes "jmp"
mnemonic (Branch condition target) = branch_name condition
mnemonic (Loop target) = codes "loop"
mnemonic (LoopE target) = codes "loope"
mnemonic (LoopNe target) = codes "loopne"
mnemonic (Jcxz target) = codes "jcxz"
mnemonic (Table r offset) = codes "jmp"
mnemonic (Call target) = codes "call"
mnemonic (Ret count) = codes "ret"
mnemonic Int21 = codes "int"

-- Operands -----------------------------------------------------------------------------------

abbrev pub register_name : Reg → List ℕ
register_name Ax = codes "ax"
register_name Cx = codes "cx"
register_name Dx = codes "dx"
register_name Bx = codes "bx"
register_name Sp = codes "sp"
register_name Bp = codes "bp"
register_name Si = codes "si"
register_name Di = codes "di"

-- one half of AX, CX, DX or BX; no other register has halves with a name
abbrev pub half_name : Reg → Half → List ℕ
half_name Ax Low = codes "al"
half_name Cx Low = codes "cl"
half_name Dx Low = codes "dl"
half_name Bx Low = codes "bl"
half_name Ax High = codes "ah"
half_name Cx High = codes "ch"
half_name Dx High = codes "dh"
half_name Bx High = codes "bh"
half_name r half = []

-- the segment register of a number from 0 to 3
abbrev pub segment_name : ℕ → List ℕ
segment_name zero = codes "es"
segment_name (suc zero) = codes "cs"
segment_name (suc (suc zero)) = codes "ss"
segment_name number = codes "ds"

-- a byte or a word, as a constant
abbrev pub byte_constant : ℕ → List ℕ
byte_constant number = codes "0x" ++ hex_byte number

abbrev pub word_constant : ℕ → List ℕ
word_constant number = codes "0x" ++ hex_word number

abbrev pub width_name : Width → List ℕ
width_name byte_width = codes "byte"
width_name word_width = codes "word"

-- the displacement of an address with these registers, which isn't told where it is 0 and a register stands
abbrev pub displacement_parts : List (List ℕ) → ℕ → List (List ℕ)
displacement_parts (r ∷ registers) zero = []
displacement_parts registers displacement = word_constant displacement ∷ []

abbrev pub register_part : Option Reg → List (List ℕ)
register_part None = []
register_part (Some r) = register_name r ∷ []

abbrev pub registers_of : Ea → List (List ℕ)
registers_of ea = register_part ea.base ++ register_part ea.index

-- an address in brackets: base, index and displacement, joined by `+`
abbrev pub brackets : Ea → List ℕ
brackets ea =
    codes "[" ++ (join_with_byte 43 (registers_of ea ++ displacement_parts (registers_of ea) ea.disp) ++ codes "]")

abbrev pub operand : Operand → List ℕ
operand (Word r) = register_name r
operand (Byte r half) = half_name r half
operand (Seg number) = segment_name number
operand (Mem width ea) = width_name width ++ (codes " " ++ brackets ea)
operand (Const byte_width number) = byte_constant number
operand (Const word_width number) = word_constant number

-- how far a shift or rotate goes
abbrev pub count_name : Count → List ℕ
count_name One = codes "1"
count_name Cl = codes "cl"
count_name (ConstCount number) = byte_constant number

-- the word in the code segment that a table jump reads
abbrev pub table_word : Reg → ℕ → List ℕ
table_word r offset = codes "cs:[" ++ (register_name r ++ (codes "+" ++ (word_constant offset ++ codes "]")))

abbrev pub operands : Op → List (List ℕ)
operands (AluOp operation a b) = operand a ∷ operand b ∷ []
operands (UnaryOp operation a) = operand a ∷ []
operands (ShiftOp operation a count) = operand a ∷ count_name count ∷ []
operands (Mov to from) = operand to ∷ operand from ∷ []
operands (Xchg a b) = operand a ∷ operand b ∷ []
operands (Lea r ea) = register_name r ∷ brackets ea ∷ []
operands (Imul3 r a constant) = register_name r ∷ operand a ∷ word_constant constant ∷ []
operands (Push a) = operand a ∷ []
operands (Pop a) = operand a ∷ []
operands (Enter count) = word_constant count ∷ []
operands Leave = []
operands (PlainOp operation) = []
operands (Jump target) = word_constant target ∷ []
operands (Branch condition target) = word_constant target ∷ []
operands (Loop target) = word_constant target ∷ []
operands (LoopE target) = word_constant target ∷ []
operands (LoopNe target) = word_constant target ∷ []
operands (Jcxz target) = word_constant target ∷ []
operands (Table r offset) = table_word r offset ∷ []
operands (Call target) = word_constant target ∷ []
operands (Ret zero) = []
operands (Ret count) = word_constant count ∷ []
operands Int21 = byte_constant 0x21 ∷ []

-- the mnemonic and the operands
abbrev pub with_operands : List ℕ → List (List ℕ) → List ℕ
with_operands name [] = name
with_operands name (first ∷ others) = name ++ (codes " " ++ join_with_byte 44 (first ∷ others))

abbrev pub spelling : Op → List ℕ
spelling op = with_operands (mnemonic op) (operands op)
