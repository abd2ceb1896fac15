-- The shapes in which an operation may be encoded, and the bytes of a draft: of all forms that the rows of the
-- processors' table give it, without regard to which offsets and constants fit them. A law says that no encoding is
-- missing (`EncodingsAreDrafts`).
use Rattle.std.specs.Prelude.{ℕ, ◌+◌, ◌-◌, ◌*◌, ◌/◌, ◌%◌, List, [], ◌∷◌, ◌++◌, length, map, Option, Some, None}
use Rattle.dcc_num.specs.declared.Reg.{Reg}
use Rattle.dcc_num.specs.declared.Reg.TheVariants.{Ax, Cx, Dx, Bx, Sp, Bp, Si, Di}
use Rattle.dcc_num.specs.declared.Half.{Half}
use Rattle.dcc_num.specs.declared.Half.TheVariants.{Low, High}
use Rattle.dcc_num.specs.declared.Width.{Width}
use Rattle.dcc_num.specs.declared.Width.TheVariants.{Byte as byte_width, Word as word_width}
use Rattle.dcc_machine.specs.declared.instr.Alu.{Alu}
use Rattle.dcc_machine.specs.declared.instr.Alu.TheVariants.{Add, Or, Adc, Sbb, And, Sub, Xor, Cmp, Test}
use Rattle.dcc_machine.specs.declared.instr.Shift.{Shift}
use Rattle.dcc_machine.specs.declared.instr.Shift.TheVariants.{Rol, Ror, Rcl, Rcr, Shl, Shr, Sar}
use Rattle.dcc_machine.specs.declared.instr.Count.{Count}
use Rattle.dcc_machine.specs.declared.instr.Count.TheVariants.{One, Cl, Const as ConstCount}
use Rattle.dcc_machine.specs.declared.instr.Unary.{Unary}
use Rattle.dcc_machine.specs.declared.instr.Unary.TheVariants.{Inc, Dec, Neg, Not, Mul, Imul, Div, Idiv}
use Rattle.dcc_machine.specs.declared.instr.Cond.{Cond}
use Rattle.dcc_machine.specs.declared.instr.Cond.TheVariants.{O, No, B, Ae, Z, Nz, Be, A, S, Ns, L, Ge, Le, G}
use Rattle.dcc_machine.specs.declared.instr.Plain.{Plain}
use Rattle.dcc_machine.specs.declared.instr.Plain.TheVariants.{Nop, Cbw, Cwd, Xlat, Clc, Stc, Cmc, Cli, Sti, Cld}
use Rattle.dcc_machine.specs.declared.instr.Operand.{Operand}
use Rattle.dcc_machine.specs.declared.instr.Operand.TheVariants.{Word, Byte, Seg, Mem, Const}
use Rattle.dcc_machine.specs.declared.instr.Op.{Op}
use Rattle.dcc_machine.specs.declared.instr.Op.TheVariants.{Alu as AluOp, Unary as UnaryOp, Shift as ShiftOp, Mov}
use Rattle.dcc_machine.specs.declared.instr.Op.TheVariants.{Xchg}
use Rattle.dcc_machine.specs.declared.instr.Op.TheVariants.{Lea, Imul3, Push, Pop, Enter, Leave, Plain as PlainOp}
use Rattle.dcc_machine.specs.declared.instr.Op.TheVariants.{Jump}
use Rattle.dcc_machine.specs.declared.instr.Op.TheVariants.{Branch, Loop, LoopE, LoopNe, Jcxz, Table, Call, Ret}
use Rattle.dcc_machine.specs.declared.instr.Op.TheVariants.{Int21}
use Rattle.dcc_machine.specs.Machine.{operand_width}
use Rattle.dcc_encode.specs.declared.shape.Head.{Head}
use Rattle.dcc_encode.specs.declared.shape.Head.TheVariants.{Opcode, TwoBytes, ThreeBytes}
use Rattle.dcc_encode.specs.declared.shape.Shape.{Shape}

-- Numbers of registers and operations --------------------------------------------------------

abbrev pub reg_number : Reg → ℕ
reg_number Ax = 0
reg_number Cx = 1
reg_number Dx = 2
reg_number Bx = 3
reg_number Sp = 4
reg_number Bp = 5
reg_number Si = 6
reg_number Di = 7

-- the number of a half of AX, CX, DX or BX
abbrev pub half_number : Reg → Half → ℕ
half_number r Low = reg_number r % 4
half_number r High = 4 + reg_number r % 4

-- the field that names a register, if the operand is a word or byte register
abbrev pub register_number : Operand → Option ℕ
register_number (Word r) = Some (reg_number r)
register_number (Byte r half) = Some (half_number r half)
register_number a = None

-- the field rm of an address with a register
abbrev pub address_number : Option Reg → Option Reg → ℕ
address_number (Some Bx) (Some Si) = 0
address_number (Some Bx) (Some Di) = 1
address_number (Some Bp) (Some Si) = 2
address_number (Some Bp) (Some Di) = 3
address_number None (Some Si) = 4
address_number None (Some Di) = 5
address_number (Some Bp) None = 6
address_number base index = 7

-- bit 0 of an opcode with a width bit
abbrev pub width_bit : Width → ℕ
width_bit byte_width = 0
width_bit word_width = 1

-- the number of an operation on two operands; TEST has none
abbrev pub alu_number : Alu → Option ℕ
alu_number Add = Some 0
alu_number Or = Some 1
alu_number Adc = Some 2
alu_number Sbb = Some 3
alu_number And = Some 4
alu_number Sub = Some 5
alu_number Xor = Some 6
alu_number Cmp = Some 7
alu_number Test = None

abbrev pub shift_number : Shift → ℕ
shift_number Rol = 0
shift_number Ror = 1
shift_number Rcl = 2
shift_number Rcr = 3
shift_number Shl = 4
shift_number Shr = 5
shift_number Sar = 7

-- the opcode before the width bit, and the field reg
abbrev pub unary_opcode : Unary → ℕ × ℕ
unary_opcode Inc = (0xfe, 0)
unary_opcode Dec = (0xfe, 1)
unary_opcode Not = (0xf6, 2)
unary_opcode Neg = (0xf6, 3)
unary_opcode Mul = (0xf6, 4)
unary_opcode Imul = (0xf6, 5)
unary_opcode Div = (0xf6, 6)
unary_opcode Idiv = (0xf6, 7)

abbrev pub branch_opcode : Cond → ℕ
branch_opcode O = 0x70
branch_opcode No = 0x71
branch_opcode B = 0x72
branch_opcode Ae = 0x73
branch_opcode Z = 0x74
branch_opcode Nz = 0x75
branch_opcode Be = 0x76
branch_opcode A = 0x77
branch_opcode S = 0x78
branch_opcode Ns = 0x79
branch_opcode L = 0x7c
branch_opcode Ge = 0x7d
branch_opcode Le = 0x7e
branch_opcode G = 0x7f

abbrev pub plain_opcode : Plain → ℕ
plain_opcode Nop = 0x90
plain_opcode Cbw = 0x98
plain_opcode Cwd = 0x99
plain_opcode Xlat = 0xd7
plain_opcode Cmc = 0xf5
plain_opcode Clc = 0xf8
plain_opcode Stc = 0xf9
plain_opcode Cli = 0xfa
plain_opcode Sti = 0xfb
plain_opcode Cld = 0xfc

-- the ModRM byte of a jump through a table by this register
abbrev pub table_modrm : Reg → ℕ
table_modrm Si = 0xa4
table_modrm Di = 0xa5
table_modrm r = 0xa7

-- Shapes -------------------------------------------------------------------------------------

-- a shape without displacement
abbrev pub shape : Head → Option Width → Shape
shape head constant = record { head = head; displacement = None; constant = constant }

-- an opcode and a constant
abbrev pub opcode_shape : ℕ → Option Width → List Shape
opcode_shape opcode constant = shape (Opcode opcode) constant ∷ []

-- an opcode, a ModRM byte of these fields, a displacement and a constant
abbrev pub modrm_shape : ℕ → ℕ → ℕ → ℕ → Option Width → Option Width → Shape
modrm_shape opcode mode reg rm displacement constant = record {
  head = TwoBytes opcode (64 * mode + 8 * reg + rm);
  displacement = displacement;
  constant = constant;
}

-- a memory operand: at a word displacement alone, or at registers with no displacement, a byte or a word
abbrev pub memory_shapes : ℕ → ℕ → Option Reg → Option Reg → Option Width → List Shape
memory_shapes opcode reg None None constant = modrm_shape opcode 0 reg 6 (Some word_width) constant ∷ []
memory_shapes opcode reg base index constant =
    modrm_shape opcode 0 reg (address_number base index) None constant
    ∷ modrm_shape opcode 1 reg (address_number base index) (Some byte_width) constant
    ∷ modrm_shape opcode 2 reg (address_number base index) (Some word_width) constant
    ∷ []

-- an opcode with a field reg and an operand r/m
abbrev pub rm_shapes : ℕ → ℕ → Operand → Option Width → List Shape
rm_shapes opcode reg (Word r) constant = modrm_shape opcode 3 reg (reg_number r) None constant ∷ []
rm_shapes opcode reg (Byte r half) constant = modrm_shape opcode 3 reg (half_number r half) None constant ∷ []
rm_shapes opcode reg (Mem width ea) constant = memory_shapes opcode reg ea.base ea.index constant
rm_shapes opcode reg a constant = []

-- an opcode with the width bit of an operand
abbrev pub with_width : ℕ → Operand → ℕ
with_width opcode a = opcode + width_bit (operand_width a)

-- an operand r/m and a register r of its width
abbrev pub rm_register_shapes : ℕ → Operand → Operand → List Shape
rm_register_shapes opcode rm (Word r) = rm_shapes (opcode + 1) (reg_number r) rm None
rm_register_shapes opcode rm (Byte r half) = rm_shapes opcode (half_number r half) rm None
rm_register_shapes opcode rm a = []

-- an opcode that names a word register by bits 2 to 0
abbrev pub word_register_shapes : ℕ → Operand → Option Width → List Shape
word_register_shapes opcode (Word r) constant = opcode_shape (opcode + reg_number r) constant
word_register_shapes opcode a constant = []

-- an operand r/m and a constant of its width
abbrev pub rm_constant_shapes : ℕ → ℕ → Operand → Operand → List Shape
rm_constant_shapes opcode reg rm (Const width number) = rm_shapes (opcode + width_bit width) reg rm (Some width)
rm_constant_shapes opcode reg rm a = []

-- a constant alone
abbrev pub constant_shapes : ℕ → Operand → List Shape
constant_shapes opcode (Const width number) = opcode_shape (opcode + width_bit width) (Some width)
constant_shapes opcode a = []

-- a memory operand at a word displacement, which stands as a constant
abbrev pub direct_shapes : ℕ → Operand → List Shape
direct_shapes opcode (Mem width ea) = opcode_shape (opcode + width_bit width) (Some word_width)
direct_shapes opcode a = []

abbrev pub alu_shapes : Option ℕ → Operand → Operand → List Shape
alu_shapes None a b = rm_register_shapes 0x84 a b ++ (constant_shapes 0xa8 b ++ rm_constant_shapes 0xf6 0 a b)
alu_shapes (Some number) a b =
    rm_register_shapes (8 * number) a b
    ++ (rm_register_shapes (8 * number + 2) b a
    ++ (constant_shapes (8 * number + 4) b
    ++ (rm_constant_shapes 0x80 number a b ++ rm_shapes 0x83 number a (Some byte_width))))

abbrev pub unary_shapes : Unary → Operand → List Shape
unary_shapes Inc a = word_register_shapes 0x40 a None ++ rm_shapes (with_width 0xfe a) 0 a None
unary_shapes Dec a = word_register_shapes 0x48 a None ++ rm_shapes (with_width 0xfe a) 1 a None
unary_shapes operation a =
    rm_shapes (with_width (unary_opcode operation).0 a) (unary_opcode operation).1 a None

abbrev pub shift_shapes : Shift → Operand → Count → List Shape
shift_shapes operation a One = rm_shapes (with_width 0xd0 a) (shift_number operation) a None
shift_shapes operation a Cl = rm_shapes (with_width 0xd2 a) (shift_number operation) a None
shift_shapes operation a (ConstCount number) =
    rm_shapes (with_width 0xc0 a) (shift_number operation) a (Some byte_width)

-- between a word register and a segment register
abbrev pub segment_shapes : Operand → Operand → List Shape
segment_shapes to (Seg number) = rm_shapes 0x8c (number % 8) to None
segment_shapes (Seg number) from = rm_shapes 0x8e (number % 8) from None
segment_shapes to from = []

-- a constant to a register
abbrev pub register_constant_shapes : Operand → Operand → List Shape
register_constant_shapes (Word r) (Const width number) = opcode_shape (0xb8 + reg_number r) (Some width)
register_constant_shapes (Byte r half) (Const width number) = opcode_shape (0xb0 + half_number r half) (Some width)
register_constant_shapes to from = []

abbrev pub move_shapes : Operand → Operand → List Shape
move_shapes to from =
    rm_register_shapes 0x88 to from
    ++ (rm_register_shapes 0x8a from to
    ++ (segment_shapes to from
    ++ (direct_shapes 0xa0 from
    ++ (direct_shapes 0xa2 to
    ++ (register_constant_shapes to from ++ rm_constant_shapes 0xc6 0 to from)))))

-- PUSH of a constant, which may be a byte that is sign-extended
abbrev pub pushed_constant_shapes : Operand → List Shape
pushed_constant_shapes (Const width number) =
    opcode_shape 0x68 (Some word_width) ++ opcode_shape 0x6a (Some byte_width)
pushed_constant_shapes a = []

-- the shapes of a jump, a call, a return or an operation without operands
abbrev pub control_shapes : Op → List Shape
control_shapes Leave = opcode_shape 0xc9 None
control_shapes (PlainOp operation) = opcode_shape (plain_opcode operation) None
control_shapes (Jump target) = opcode_shape 0xeb (Some byte_width) ++ opcode_shape 0xe9 (Some word_width)
control_shapes (Branch condition target) = opcode_shape (branch_opcode condition) (Some byte_width)
control_shapes (Loop target) = opcode_shape 0xe2 (Some byte_width)
control_shapes (LoopE target) = opcode_shape 0xe1 (Some byte_width)
control_shapes (LoopNe target) = opcode_shape 0xe0 (Some byte_width)
control_shapes (Jcxz target) = opcode_shape 0xe3 (Some byte_width)
control_shapes (Call target) = opcode_shape 0xe8 (Some word_width)
control_shapes (Ret count) = opcode_shape 0xc3 None ++ opcode_shape 0xc2 (Some word_width)
control_shapes op = []

-- the shapes of LEA, of a product with a constant, of PUSH and of POP, and those of an operation without operands
abbrev pub one_operand_shapes : Op → List Shape
one_operand_shapes (Lea r ea) = memory_shapes 0x8d (reg_number r) ea.base ea.index None
one_operand_shapes (Imul3 r a constant) =
    rm_shapes 0x69 (reg_number r) a (Some word_width) ++ rm_shapes 0x6b (reg_number r) a (Some byte_width)
one_operand_shapes (Push a) =
    pushed_constant_shapes a ++ (word_register_shapes 0x50 a None ++ rm_shapes 0xff 6 a None)
one_operand_shapes (Pop a) = word_register_shapes 0x58 a None ++ rm_shapes 0x8f 0 a None
one_operand_shapes op = control_shapes op

-- the shapes of an operation
abbrev pub shapes : Op → List Shape
shapes (AluOp operation a b) = alu_shapes (alu_number operation) a b
shapes (UnaryOp operation a) = unary_shapes operation a
shapes (ShiftOp operation a count) = shift_shapes operation a count
shapes (Mov to from) = move_shapes to from
shapes (Xchg a b) = rm_register_shapes 0x86 a b ++ word_register_shapes 0x90 b None
shapes (Enter count) =
    record { head = Opcode 0xc8; displacement = Some word_width; constant = Some byte_width } ∷ []
shapes (Table r offset) =
    record { head = ThreeBytes 0x2e 0xff (table_modrm r); displacement = Some word_width; constant = None } ∷ []
shapes Int21 = shape (TwoBytes 0xcd 0x21) None ∷ []
shapes op = one_operand_shapes op

-- Displacement and constant ------------------------------------------------------------------

abbrev pub operand_displacement : Operand → ℕ
operand_displacement (Mem width ea) = ea.disp
operand_displacement a = 0

-- the displacement of two operands, of which one at most lies in memory
abbrev pub displacement_of_two : Operand → Operand → ℕ
displacement_of_two (Mem width ea) b = ea.disp
displacement_of_two a b = operand_displacement b

-- the number that stands as a displacement
abbrev pub displacement_in : Op → ℕ
displacement_in (AluOp operation a b) = displacement_of_two a b
displacement_in (UnaryOp operation a) = operand_displacement a
displacement_in (ShiftOp operation a count) = operand_displacement a
displacement_in (Mov to from) = displacement_of_two to from
displacement_in (Xchg a b) = displacement_of_two a b
displacement_in (Lea r ea) = ea.disp
displacement_in (Imul3 r a constant) = operand_displacement a
displacement_in (Push a) = operand_displacement a
displacement_in (Pop a) = operand_displacement a
displacement_in (Enter count) = count
displacement_in (Table r offset) = offset
displacement_in op = 0

abbrev pub operand_constant : Operand → ℕ
operand_constant (Const width number) = number
operand_constant a = operand_displacement a

-- the constant of a MOV, where the displacement of a memory operand may stand as one
abbrev pub moved_constant : Operand → Operand → ℕ
moved_constant to (Const width number) = number
moved_constant to from = displacement_of_two to from

abbrev pub count_constant : Count → ℕ
count_constant (ConstCount number) = number
count_constant count = 0

-- how far a target lies from the next instruction, which counts modulo 65536
abbrev pub distance : ℕ → ℕ → ℕ
distance target next = (target + 65536 - next % 65536) % 65536

-- the number that stands as a constant, where the next instruction has this offset
abbrev pub constant_in : Op → ℕ → ℕ
constant_in (AluOp operation a b) next = operand_constant b
constant_in (ShiftOp operation a count) next = count_constant count
constant_in (Mov to from) next = moved_constant to from
constant_in (Imul3 r a constant) next = constant
constant_in (Push a) next = operand_constant a
constant_in (Jump target) next = distance target next
constant_in (Branch condition target) next = distance target next
constant_in (Loop target) next = distance target next
constant_in (LoopE target) next = distance target next
constant_in (LoopNe target) next = distance target next
constant_in (Jcxz target) next = distance target next
constant_in (Call target) next = distance target next
constant_in (Ret count) next = count
constant_in op next = 0

-- Drafts -------------------------------------------------------------------------------------

abbrev pub head_bytes : Head → List ℕ
head_bytes (Opcode opcode) = opcode ∷ []
head_bytes (TwoBytes first second) = first ∷ second ∷ []
head_bytes (ThreeBytes first second third) = first ∷ second ∷ third ∷ []

abbrev pub size_of : Option Width → ℕ
size_of None = 0
size_of (Some byte_width) = 1
size_of (Some word_width) = 2

abbrev pub shape_length : Shape → ℕ
shape_length s = length (head_bytes s.head) + size_of s.displacement + size_of s.constant

-- the low bytes of a number, the lowest first
abbrev pub low_bytes : Option Width → ℕ → List ℕ
low_bytes None number = []
low_bytes (Some byte_width) number = number % 256 ∷ []
low_bytes (Some word_width) number = number % 256 ∷ number / 256 % 256 ∷ []

-- the bytes of a shape with the operation's displacement and constant, at an offset
abbrev pub draft : Op → ℕ → Shape → List ℕ
draft op at s =
    head_bytes s.head
    ++ (low_bytes s.displacement (displacement_in op) ++ low_bytes s.constant (constant_in op (at + shape_length s)))

abbrev pub drafts : Op → ℕ → List (List ℕ)
drafts op at = map (draft op at) (shapes op)
