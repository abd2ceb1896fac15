-- The encodings of the 8086 and the 80186 that this project knows, one row for each (8086 Family User's Manual, table
-- 4-12; iAPX 86/88, 186/188 User's Manual, Programmer's Reference), and which instruction some bytes are.
use Rattle.std.specs.Prelude.{◌<◌, take, ◌≡◌, ◌≤◌, ◌↔◌, IsTrue, slice_get, filter, Some, ℕ, ◌+◌, ◌-◌, ◌/◌, ◌%◌, zero}
use Rattle.std.specs.Prelude.{suc, Bool, true, false, if◌then◌else◌, ◌==◌, ◌&&◌, nat_le, List, [], ◌∷◌, ◌++◌, length}
use Rattle.std.specs.Prelude.{get_or, map, find, Option, None, option_map}
use Rattle.dcc_num.specs.declared.Reg.TheVariants.{Bx, Si, Di}
use Rattle.dcc_num.specs.declared.Width.TheVariants.{Byte as byte_width, Word as word_width}
use Rattle.dcc_num.specs.Numbers.{sign_extension_of}
use Rattle.dcc_machine.specs.declared.cpu.Cpu.{Cpu}
use Rattle.dcc_machine.specs.declared.cpu.Cpu.TheVariants.{I8086, I186}
use Rattle.dcc_machine.specs.declared.instr.Alu.{Alu}
use Rattle.dcc_machine.specs.declared.instr.Alu.TheVariants.{Add, Or, Adc, Sbb, And, Sub, Xor, Cmp, Test}
use Rattle.dcc_machine.specs.declared.instr.Shift.{Shift}
use Rattle.dcc_machine.specs.declared.instr.Shift.TheVariants.{Rol, Ror, Rcl, Rcr, Shl, Shr, Sar}
use Rattle.dcc_machine.specs.declared.instr.Count.{Count}
use Rattle.dcc_machine.specs.declared.instr.Count.TheVariants.{One, Cl, Const as ConstCount}
use Rattle.dcc_machine.specs.declared.instr.Unary.{Unary}
use Rattle.dcc_machine.specs.declared.instr.Unary.TheVariants.{Inc, Dec, Neg, Not, Mul, Imul, Div, Idiv}
use Rattle.dcc_machine.specs.declared.instr.Cond.{Cond}
use Rattle.dcc_machine.specs.declared.instr.Cond.TheVariants.{O, No, B, Ae, Z, Nz, Be, A, S, Ns, L, Ge, Le, G}
use Rattle.dcc_machine.specs.declared.instr.Plain.TheVariants.{Nop, Cbw, Cwd, Xlat, Clc, Stc, Cmc, Cli, Sti, Cld}
use Rattle.dcc_machine.specs.declared.instr.Operand.{Operand}
use Rattle.dcc_machine.specs.declared.instr.Operand.TheVariants.{Seg, Mem, Const}
use Rattle.dcc_machine.specs.declared.instr.Op.{Op}
use Rattle.dcc_machine.specs.declared.instr.Op.TheVariants.{Alu as AluOp, Unary as UnaryOp, Shift as ShiftOp, Mov, Xchg}
use Rattle.dcc_machine.specs.declared.instr.Op.TheVariants.{Lea, Imul3, Push, Pop, Enter, Leave, Plain as PlainOp, Jump}
use Rattle.dcc_machine.specs.declared.instr.Op.TheVariants.{Branch, Loop, LoopE, LoopNe, Jcxz, Table, Call, Ret, Int21}
use Rattle.dcc_machine.specs.declared.instr.Instr.{Instr}
use Rattle.dcc_machine.specs.Bytes.{byte_at, word_at}
use Rattle.dcc_machine.specs.Operands.{word_register, register, width_of, mod_field, reg_field, rm_field}
use Rattle.dcc_machine.specs.Operands.{displacement_size, displacement_at, address, rm_operand}

-- A row of the table -------------------------------------------------------------------------

-- the numbers from first to last
pub record Range : Type 0 where
  pub first : ℕ
  pub last : ℕ

-- what a row asks of a byte: the range of the byte, and the ranges of its three fields mod, reg
-- and rm, which are bits 7 and 6, 5 to 3, 2 to 0
pub record BytePattern : Type 0 where
  pub byte : Range
  pub mods : Range
  pub regs : Range
  pub rms : Range

-- which constant an instruction has: none, a byte, a word, or a byte that is sign-extended to a word
pub data ConstantForm : Type 0 where
  no_constant : ConstantForm
  byte_constant : ConstantForm
  word_constant : ConstantForm
  signed_constant : ConstantForm

-- where the constant begins: at the end, after the first bytes and the displacement; or at an index among the first
-- bytes
pub data ConstantPlace : Type 0 where
  at_end : ConstantPlace
  at_index : ℕ → ConstantPlace

-- what an operation is made of: the opcode byte, the ModRM byte with its displacement, the
-- constant, and the offset of the next instruction, which isn't wrapped
pub record Parts : Type 0 where
  pub opcode : ℕ
  pub modrm : ℕ
  pub displacement : ℕ
  pub constant : ℕ
  pub next : ℕ

-- an encoding: what it asks of its first bytes, whether the second of these is a ModRM byte with a displacement after
-- them, the constant and where it stands, and the operation
pub record Row : Type 0 where
  pub pattern : List BytePattern
  pub has_modrm : Bool
  pub constant_place : ConstantPlace
  pub constant_form : ConstantForm
  pub operation : Parts → Op

-- The parts of an instruction ------------------------------------------------------------------

abbrev pub in_range : Range → ℕ → Bool
in_range range number = nat_le range.first number && nat_le number range.last

abbrev pub fits_byte : BytePattern → ℕ → Bool
fits_byte pattern byte =
    in_range pattern.byte byte && in_range pattern.mods (mod_field byte)
    && in_range pattern.regs (reg_field byte) && in_range pattern.rms (rm_field byte)

-- whether the first bytes fit the patterns, one by one
abbrev pub fits : List BytePattern → List ℕ → Bool
fits [] bytes = true
fits (pattern ∷ patterns) [] = false
fits (pattern ∷ patterns) (byte ∷ bytes) = fits_byte pattern byte && fits patterns bytes

-- whether there are that many bytes
abbrev pub has_bytes : ℕ → List ℕ → Bool
has_bytes zero bytes = true
has_bytes (suc count) [] = false
has_bytes (suc count) (byte ∷ bytes) = has_bytes count bytes

abbrev pub constant_size : ConstantForm → ℕ
constant_size no_constant = 0
constant_size byte_constant = 1
constant_size word_constant = 2
constant_size signed_constant = 1

-- the constant of that form at an index
abbrev pub constant_at : ConstantForm → List ℕ → ℕ → ℕ
constant_at no_constant bytes index = 0
constant_at byte_constant bytes index = byte_at bytes index
constant_at word_constant bytes index = word_at bytes index
constant_at signed_constant bytes index = sign_extension_of (byte_at bytes index)

-- how many bytes of displacement an instruction of the row has
abbrev pub row_displacement_size : Row → List ℕ → ℕ
row_displacement_size row bytes =
    if row.has_modrm then displacement_size (byte_at bytes 1) else 0

-- the first bytes and the displacement
abbrev pub head_length : Row → List ℕ → ℕ
head_length row bytes = length row.pattern + row_displacement_size row bytes

-- how many bytes of a constant stand after the first bytes and the displacement
abbrev pub tail_size : ConstantPlace → ConstantForm → ℕ
tail_size at_end form = constant_size form
tail_size (at_index index) form = 0

-- where a constant begins, by where the bytes before the end of an instruction end
abbrev pub constant_index : ConstantPlace → ℕ → ℕ
constant_index at_end head = head
constant_index (at_index index) head = index

-- the length of an instruction of the row: its first bytes, the displacement, and a constant after them
abbrev pub row_length : Row → List ℕ → ℕ
row_length row bytes = head_length row bytes + tail_size row.constant_place row.constant_form

-- whether the bytes begin with an instruction of the row, which is wholly there
abbrev pub matches : Row → List ℕ → Bool
matches row bytes = fits row.pattern bytes && has_bytes (row_length row bytes) bytes

-- the parts of the instruction of the row that begins at an offset with these bytes
abbrev pub row_parts : Row → ℕ → List ℕ → Parts
row_parts row offset bytes = record {
  opcode = byte_at bytes 0;
  modrm = if row.has_modrm then byte_at bytes 1 else 0;
  displacement =
      if row.has_modrm then displacement_at (byte_at bytes 1) bytes (length row.pattern) else 0;
  constant = constant_at row.constant_form bytes (constant_index row.constant_place (head_length row bytes));
  next = offset + row_length row bytes;
}

abbrev pub row_instruction : Row → ℕ → List ℕ → Instr
row_instruction row offset bytes = record {
  op = row.operation (row_parts row offset bytes);
  len = row_length row bytes;
}

-- Operands and operations of the rows ----------------------------------------------------------

-- the r/m operand: a byte, a word, or by the width bit of the opcode
abbrev pub rm8 : Parts → Operand
rm8 parts = rm_operand byte_width parts.modrm parts.displacement

abbrev pub rm16 : Parts → Operand
rm16 parts = rm_operand word_width parts.modrm parts.displacement

abbrev pub rm : Parts → Operand
rm parts = rm_operand (width_of parts.opcode) parts.modrm parts.displacement

-- the register that the reg field names, by the width bit of the opcode
abbrev pub reg : Parts → Operand
reg parts = register (width_of parts.opcode) (reg_field parts.modrm)

-- the segment register that the reg field names
abbrev pub segment : Parts → Operand
segment parts = Seg (reg_field parts.modrm)

-- the register that bits 2 to 0 of the opcode name
abbrev pub r8 : Parts → Operand
r8 parts = register byte_width (parts.opcode % 8)

abbrev pub r16 : Parts → Operand
r16 parts = register word_width (parts.opcode % 8)

-- AL, AX, or by the width bit of the opcode
abbrev pub al : Operand
al = register byte_width 0

abbrev pub ax : Operand
ax = register word_width 0

abbrev pub accumulator : Parts → Operand
accumulator parts = register (width_of parts.opcode) 0

-- the constant as a byte, a word, or by the width bit of the opcode
abbrev pub imm8 : Parts → Operand
imm8 parts = Const byte_width parts.constant

abbrev pub imm16 : Parts → Operand
imm16 parts = Const word_width parts.constant

abbrev pub imm : Parts → Operand
imm parts = Const (width_of parts.opcode) parts.constant

-- the memory at the offset that the constant gives, by the width bit of the opcode
abbrev pub direct : Parts → Operand
direct parts =
    Mem (width_of parts.opcode) (record { base = None; index = None; disp = parts.constant })

-- the target of a relative jump: the constant is the distance from the next instruction
abbrev pub target : Parts → ℕ
target parts = (parts.next + parts.constant) % 65536

-- of an operation on r/m and r: the register is the destination where bit 1 of the opcode is set,
-- else the source
abbrev pub destination : Parts → Operand
destination parts = if parts.opcode / 2 % 2 == 1 then reg parts else rm parts

abbrev pub source : Parts → Operand
source parts = if parts.opcode / 2 % 2 == 1 then rm parts else reg parts

-- the operation on two operands of a number from 0 to 7
abbrev pub alu_of : ℕ → Alu
alu_of number = get_or (Add ∷ Or ∷ Adc ∷ Sbb ∷ And ∷ Sub ∷ Xor ∷ Cmp ∷ []) number Cmp

-- the operation that bits 5 to 3 of the opcode name, and the one that the reg field names
abbrev pub alu_by_opcode : Parts → Operand → Operand → Op
alu_by_opcode parts = AluOp (alu_of (parts.opcode / 8))

abbrev pub alu_by_reg : Parts → Operand → Operand → Op
alu_by_reg parts = AluOp (alu_of (reg_field parts.modrm))

-- the shift or rotate of a number from 0 to 7 other than 6
abbrev pub shift_of : ℕ → Shift
shift_of number = get_or (Rol ∷ Ror ∷ Rcl ∷ Rcr ∷ Shl ∷ Shr ∷ Sar ∷ Sar ∷ []) number Sar

-- the shift or rotate that the reg field names
abbrev pub shift_by : Count → Parts → Op
shift_by count parts = ShiftOp (shift_of (reg_field parts.modrm)) (rm parts) count

-- by CL where bit 1 of the opcode is set, else by 1
abbrev pub shift : Parts → Op
shift parts = shift_by (if parts.opcode / 2 % 2 == 1 then Cl else One) parts

-- by the constant
abbrev pub constant_shift : Parts → Op
constant_shift parts = shift_by (ConstCount parts.constant) parts

-- the product of r/m and the constant into the word register that the reg field names
abbrev pub triple_product : Parts → Op
triple_product parts = Imul3 (word_register (reg_field parts.modrm)) (rm16 parts) parts.constant

-- the operation on one operand of a number from 2 to 7
abbrev pub unary_of : ℕ → Unary
unary_of number = get_or (Not ∷ Neg ∷ Mul ∷ Imul ∷ Div ∷ Idiv ∷ []) (number - 2) Idiv

-- the operation that the reg field names
abbrev pub unary_by_reg : Parts → Operand → Op
unary_by_reg parts = UnaryOp (unary_of (reg_field parts.modrm))

-- the address of the memory operand into the word register that the reg field names
abbrev pub load_address : Parts → Op
load_address parts =
    Lea (word_register (reg_field parts.modrm)) (address parts.modrm parts.displacement)

-- the condition of the opcodes 0x70 to 0x79, from 0 on, and of 0x7C to 0x7F, from 0 on
abbrev pub condition_of : ℕ → Cond
condition_of number = get_or (O ∷ No ∷ B ∷ Ae ∷ Z ∷ Nz ∷ Be ∷ A ∷ S ∷ Ns ∷ []) number Ns

abbrev pub signed_condition_of : ℕ → Cond
signed_condition_of number = get_or (L ∷ Ge ∷ Le ∷ G ∷ []) number G

-- a jump to the target where the condition holds
abbrev pub branch : Cond → Parts → Op
branch condition parts = Branch condition (target parts)

-- Patterns -------------------------------------------------------------------------------------

abbrev pub between : ℕ → ℕ → Range
between first last = record { first = first; last = last }

-- the bytes from first to last
abbrev pub bytes_between : ℕ → ℕ → BytePattern
bytes_between first last = record {
  byte = between first last;
  mods = between 0 3;
  regs = between 0 7;
  rms = between 0 7;
}

-- any byte
abbrev pub any_byte : BytePattern
any_byte = bytes_between 0x00 0xff

-- the one byte
abbrev pub this_byte : ℕ → BytePattern
this_byte byte = record {
  byte = between byte byte;
  mods = between (mod_field byte) (mod_field byte);
  regs = between (reg_field byte) (reg_field byte);
  rms = between (rm_field byte) (rm_field byte);
}

-- the bytes 8*o + first to 8*o + last, for o from 0 to 7
abbrev pub each_eight : ℕ → ℕ → BytePattern
each_eight first last = record {
  byte = between 0x00 0x3f;
  mods = between 0 3;
  regs = between 0 7;
  rms = between first last;
}

-- the ModRM bytes of those fields
abbrev pub modrm_bytes : Range → Range → Range → BytePattern
modrm_bytes mods regs rms = record {
  byte = between 0x00 0xff;
  mods = mods;
  regs = regs;
  rms = rms;
}

-- any ModRM byte
abbrev pub any_modrm : BytePattern
any_modrm = modrm_bytes (between 0 3) (between 0 7) (between 0 7)

-- ModRM bytes with that reg field, for any operand; a memory operand; a register
abbrev pub any_operand : ℕ → ℕ → BytePattern
any_operand first last = modrm_bytes (between 0 3) (between first last) (between 0 7)

abbrev pub memory_operand : ℕ → ℕ → BytePattern
memory_operand first last = modrm_bytes (between 0 2) (between first last) (between 0 7)

abbrev pub register_operand : ℕ → ℕ → BytePattern
register_operand first last = modrm_bytes (between 3 3) (between first last) (between 0 7)

-- ModRM bytes with that reg field that name a word register below SP, or above SP
abbrev pub register_below_sp : ℕ → BytePattern
register_below_sp reg = modrm_bytes (between 3 3) (between reg reg) (between 0 3)

abbrev pub register_above_sp : ℕ → BytePattern
register_above_sp reg = modrm_bytes (between 3 3) (between reg reg) (between 5 7)

-- a row without a ModRM byte, by its opcode bytes
abbrev pub row : BytePattern → ConstantForm → (Parts → Op) → Row
row opcode constant operation = record {
  pattern = opcode ∷ [];
  has_modrm = false;
  constant_place = at_end;
  constant_form = constant;
  operation = operation;
}

-- a row with a ModRM byte
abbrev pub modrm_row : BytePattern → BytePattern → ConstantForm → (Parts → Op) → Row
modrm_row opcode modrm constant operation = record {
  pattern = opcode ∷ modrm ∷ [];
  has_modrm = true;
  constant_place = at_end;
  constant_form = constant;
  operation = operation;
}

-- a row whose first bytes are given
abbrev pub fixed_row : List ℕ → ConstantForm → (Parts → Op) → Row
fixed_row bytes constant operation = record {
  pattern = map this_byte bytes;
  has_modrm = false;
  constant_place = at_end;
  constant_form = constant;
  operation = operation;
}

-- a row without a ModRM byte, whose word constant stands directly after the opcode byte and before a last byte
abbrev pub closed_row : BytePattern → BytePattern → (Parts → Op) → Row
closed_row opcode last operation = record {
  pattern = opcode ∷ any_byte ∷ any_byte ∷ last ∷ [];
  has_modrm = false;
  constant_place = at_index 1;
  constant_form = word_constant;
  operation = operation;
}

-- The table ------------------------------------------------------------------------------------

-- ADD, OR, ADC, SBB, AND, SUB, XOR, CMP; TEST
abbrev pub arithmetic_rows : List Row
arithmetic_rows =
    modrm_row (each_eight 0 3) any_modrm no_constant (λ p. alu_by_opcode p (destination p) (source p))
    ∷ row (each_eight 4 4) byte_constant (λ p. alu_by_opcode p al (imm8 p))
    ∷ row (each_eight 5 5) word_constant (λ p. alu_by_opcode p ax (imm16 p))
    ∷ modrm_row (this_byte 0x80) any_modrm byte_constant (λ p. alu_by_reg p (rm8 p) (imm8 p))
    ∷ modrm_row (this_byte 0x81) any_modrm word_constant (λ p. alu_by_reg p (rm16 p) (imm16 p))
    ∷ modrm_row (this_byte 0x83) any_modrm signed_constant (λ p. alu_by_reg p (rm16 p) (imm16 p))
    ∷ modrm_row (bytes_between 0x84 0x85) any_modrm no_constant (λ p. AluOp Test (rm p) (reg p))
    ∷ row (this_byte 0xa8) byte_constant (λ p. AluOp Test (accumulator p) (imm p))
    ∷ row (this_byte 0xa9) word_constant (λ p. AluOp Test (accumulator p) (imm p))
    ∷ modrm_row (this_byte 0xf6) (any_operand 0 0) byte_constant (λ p. AluOp Test (rm p) (imm p))
    ∷ modrm_row (this_byte 0xf7) (any_operand 0 0) word_constant (λ p. AluOp Test (rm p) (imm p))
    ∷ []

-- INC, DEC, NOT, NEG, MUL, IMUL, DIV, IDIV; ROL, ROR, RCL, RCR, SHL, SHR, SAR
abbrev pub unary_rows : List Row
unary_rows =
    row (bytes_between 0x40 0x47) no_constant (λ p. UnaryOp Inc (r16 p))
    ∷ row (bytes_between 0x48 0x4f) no_constant (λ p. UnaryOp Dec (r16 p))
    ∷ modrm_row (bytes_between 0xf6 0xf7) (any_operand 2 7) no_constant (λ p. unary_by_reg p (rm p))
    ∷ modrm_row (bytes_between 0xfe 0xff) (any_operand 0 0) no_constant (λ p. UnaryOp Inc (rm p))
    ∷ modrm_row (bytes_between 0xfe 0xff) (any_operand 1 1) no_constant (λ p. UnaryOp Dec (rm p))
    ∷ modrm_row (bytes_between 0xd0 0xd3) (any_operand 0 1) no_constant (λ p. shift p)
    ∷ modrm_row (bytes_between 0xd0 0xd1) (any_operand 2 3) no_constant (λ p. shift p)
    ∷ modrm_row (bytes_between 0xd0 0xd3) (any_operand 4 5) no_constant (λ p. shift p)
    ∷ modrm_row (bytes_between 0xd0 0xd3) (any_operand 7 7) no_constant (λ p. shift p)
    ∷ []

-- PUSH and POP, but not of SP
abbrev pub stack_rows : List Row
stack_rows =
    row (bytes_between 0x50 0x53) no_constant (λ p. Push (r16 p))
    ∷ row (bytes_between 0x55 0x57) no_constant (λ p. Push (r16 p))
    ∷ row (bytes_between 0x58 0x5b) no_constant (λ p. Pop (r16 p))
    ∷ row (bytes_between 0x5d 0x5f) no_constant (λ p. Pop (r16 p))
    ∷ modrm_row (this_byte 0xff) (memory_operand 6 6) no_constant (λ p. Push (rm16 p))
    ∷ modrm_row (this_byte 0xff) (register_below_sp 6) no_constant (λ p. Push (rm16 p))
    ∷ modrm_row (this_byte 0xff) (register_above_sp 6) no_constant (λ p. Push (rm16 p))
    ∷ modrm_row (this_byte 0x8f) (memory_operand 0 0) no_constant (λ p. Pop (rm16 p))
    ∷ modrm_row (this_byte 0x8f) (register_below_sp 0) no_constant (λ p. Pop (rm16 p))
    ∷ modrm_row (this_byte 0x8f) (register_above_sp 0) no_constant (λ p. Pop (rm16 p))
    ∷ []

-- XCHG, MOV, LEA
abbrev pub move_rows : List Row
move_rows =
    modrm_row (bytes_between 0x86 0x87) any_modrm no_constant (λ p. Xchg (rm p) (reg p))
    ∷ row (bytes_between 0x91 0x97) no_constant (λ p. Xchg ax (r16 p))
    ∷ modrm_row (bytes_between 0x88 0x8b) any_modrm no_constant (λ p. Mov (destination p) (source p))
    ∷ modrm_row (this_byte 0x8c) (register_operand 0 3) no_constant (λ p. Mov (rm16 p) (segment p))
    ∷ modrm_row (this_byte 0x8e) (register_operand 0 0) no_constant (λ p. Mov (segment p) (rm16 p))
    ∷ modrm_row (this_byte 0x8e) (register_operand 2 3) no_constant (λ p. Mov (segment p) (rm16 p))
    ∷ modrm_row (this_byte 0x8d) (memory_operand 0 7) no_constant (λ p. load_address p)
    ∷ row (bytes_between 0xa0 0xa1) word_constant (λ p. Mov (accumulator p) (direct p))
    ∷ row (bytes_between 0xa2 0xa3) word_constant (λ p. Mov (direct p) (accumulator p))
    ∷ row (bytes_between 0xb0 0xb7) byte_constant (λ p. Mov (r8 p) (imm8 p))
    ∷ row (bytes_between 0xb8 0xbf) word_constant (λ p. Mov (r16 p) (imm16 p))
    ∷ modrm_row (this_byte 0xc6) (any_operand 0 0) byte_constant (λ p. Mov (rm p) (imm p))
    ∷ modrm_row (this_byte 0xc7) (any_operand 0 0) word_constant (λ p. Mov (rm p) (imm p))
    ∷ []

-- jumps, calls, returns, INT 21h, and the jump to a word at CS:[SI+iw], CS:[DI+iw] or CS:[BX+iw]
abbrev pub control_rows : List Row
control_rows =
    row (bytes_between 0x70 0x79) signed_constant (λ p. branch (condition_of (p.opcode - 0x70)) p)
    ∷ row (bytes_between 0x7c 0x7f) signed_constant (λ p. branch (signed_condition_of (p.opcode - 0x7c)) p)
    ∷ row (this_byte 0xe0) signed_constant (λ p. LoopNe (target p))
    ∷ row (this_byte 0xe1) signed_constant (λ p. LoopE (target p))
    ∷ row (this_byte 0xe2) signed_constant (λ p. Loop (target p))
    ∷ row (this_byte 0xe3) signed_constant (λ p. Jcxz (target p))
    ∷ row (this_byte 0xe8) word_constant (λ p. Call (target p))
    ∷ row (this_byte 0xe9) word_constant (λ p. Jump (target p))
    ∷ row (this_byte 0xeb) signed_constant (λ p. Jump (target p))
    ∷ row (this_byte 0xc2) word_constant (λ p. Ret p.constant)
    ∷ row (this_byte 0xc3) no_constant (λ p. Ret 0)
    ∷ fixed_row (0xcd ∷ 0x21 ∷ []) no_constant (λ p. Int21)
    ∷ fixed_row (0x2e ∷ 0xff ∷ 0xa4 ∷ []) word_constant (λ p. Table Si p.constant)
    ∷ fixed_row (0x2e ∷ 0xff ∷ 0xa5 ∷ []) word_constant (λ p. Table Di p.constant)
    ∷ fixed_row (0x2e ∷ 0xff ∷ 0xa7 ∷ []) word_constant (λ p. Table Bx p.constant)
    ∷ []

-- operations without operands
abbrev pub plain_rows : List Row
plain_rows =
    row (this_byte 0x90) no_constant (λ p. PlainOp Nop)
    ∷ row (this_byte 0x98) no_constant (λ p. PlainOp Cbw)
    ∷ row (this_byte 0x99) no_constant (λ p. PlainOp Cwd)
    ∷ row (this_byte 0xd7) no_constant (λ p. PlainOp Xlat)
    ∷ row (this_byte 0xf5) no_constant (λ p. PlainOp Cmc)
    ∷ row (this_byte 0xf8) no_constant (λ p. PlainOp Clc)
    ∷ row (this_byte 0xf9) no_constant (λ p. PlainOp Stc)
    ∷ row (this_byte 0xfa) no_constant (λ p. PlainOp Cli)
    ∷ row (this_byte 0xfb) no_constant (λ p. PlainOp Sti)
    ∷ row (this_byte 0xfc) no_constant (λ p. PlainOp Cld)
    ∷ []

-- what the 80186 has besides: PUSH of a constant; IMUL of r/m and a constant; ROL, ROR, SHL, SHR, SAR by a constant;
-- ENTER at level 0, LEAVE
abbrev pub later_rows : List Row
later_rows =
    row (this_byte 0x68) word_constant (λ p. Push (imm16 p))
    ∷ row (this_byte 0x6a) signed_constant (λ p. Push (imm16 p))
    ∷ modrm_row (this_byte 0x69) any_modrm word_constant (λ p. triple_product p)
    ∷ modrm_row (this_byte 0x6b) any_modrm signed_constant (λ p. triple_product p)
    ∷ modrm_row (bytes_between 0xc0 0xc1) (any_operand 0 1) byte_constant (λ p. constant_shift p)
    ∷ modrm_row (bytes_between 0xc0 0xc1) (any_operand 4 5) byte_constant (λ p. constant_shift p)
    ∷ modrm_row (bytes_between 0xc0 0xc1) (any_operand 7 7) byte_constant (λ p. constant_shift p)
    ∷ closed_row (this_byte 0xc8) (this_byte 0x00) (λ p. Enter p.constant)
    ∷ row (this_byte 0xc9) no_constant (λ p. Leave)
    ∷ []

abbrev pub rows_besides : Cpu → List Row
rows_besides I8086 = []
rows_besides I186 = later_rows

-- every encoding of a processor
unfoldable pub table : Cpu → List Row
table cpu =
    arithmetic_rows ++ unary_rows ++ stack_rows ++ move_rows ++ control_rows ++ plain_rows ++ rows_besides cpu

-- the instruction that begins at an offset with the first of these bytes: that of the row that
-- matches them, if any
unfoldable pub instruction_at : Cpu → ℕ → List ℕ → Option Instr
instruction_at cpu offset bytes =
    option_map (λ row. row_instruction row offset bytes) (find (λ row. matches row bytes) (table cpu))

-- Laws of the table ----------------------------------------------------------------------------

-- a row of the table
abbrev pub IsRow : Cpu → Row → Type 0
IsRow cpu row = (k : ℕ) × (slice_get (table cpu) k ≡ Some row)

-- at most one row of the table matches any bytes
abbrev pub AtMostOneRowMatches : Type 0
AtMostOneRowMatches =
    (cpu : Cpu) (bytes : List ℕ) → length (filter (λ row. matches row bytes) (table cpu)) ≤ 1

-- the bytes are an instruction exactly where a row of the table matches them, and then it is that row's; its length is
-- that of the opcode and ModRM bytes, the displacement, and a constant after them
abbrev pub InstructionIsThatOfItsRow : Type 0
InstructionIsThatOfItsRow =
    (cpu : Cpu) (offset : ℕ) (bytes : List ℕ) (instr : Instr)
    → (instruction_at cpu offset bytes ≡ Some instr)
    ↔ ((row : Row) × IsRow cpu row × IsTrue (matches row bytes)
    × (instr.op ≡ row.operation (row_parts row offset bytes))
    × (instr.len ≡ row_length row bytes))

-- an instruction has one to six bytes, all of which are there
abbrev pub InstructionHasOneToSixBytes : Type 0
InstructionHasOneToSixBytes =
    (cpu : Cpu) (offset : ℕ) (bytes : List ℕ) (instr : Instr) → instruction_at cpu offset bytes ≡ Some instr
    → (0 < instr.len) × (instr.len ≤ length bytes) × (instr.len ≤ 6)

-- an instruction depends on its own bytes alone
abbrev pub InstructionDependsOnItsBytes : Type 0
InstructionDependsOnItsBytes =
    (cpu : Cpu) (offset : ℕ) (bytes others : List ℕ) (instr : Instr) → instruction_at cpu offset bytes ≡ Some instr
    → take instr.len others ≡ take instr.len bytes → instruction_at cpu offset others ≡ Some instr

-- the 80186 has each instruction of the 8086
abbrev pub LaterProcessorHasEachInstruction : Type 0
LaterProcessorHasEachInstruction =
    (offset : ℕ) (bytes : List ℕ) (instr : Instr) → instruction_at I8086 offset bytes ≡ Some instr
    → instruction_at I186 offset bytes ≡ Some instr
