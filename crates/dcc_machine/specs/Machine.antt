-- The machine: its registers, flags, memory and console (8086 Family User's Manual, chapter 2).
use Rattle.std.specs.Prelude.{ℕ, ◌+◌, ◌-◌, ◌*◌, ◌/◌, ◌%◌, Bool, true, false, ◌||◌, if◌then◌else◌, List, [], ◌∷◌, ◌++◌}
use Rattle.std.specs.Prelude.{length, replicate, slice_index, slice_set, Option, Some, None}
use Rattle.dcc_run.specs.End.{End, Running}
use Rattle.dcc_run.specs.Event.{Event}
use Rattle.dcc_num.specs.declared.Width.{Width}
use Rattle.dcc_num.specs.declared.Width.TheVariants.{Byte as byte_width, Word as word_width}
use Rattle.dcc_num.specs.declared.Reg.{Reg}
use Rattle.dcc_num.specs.declared.Reg.TheVariants.{Ax, Cx, Dx, Bx, Sp, Bp, Si, Di}
use Rattle.dcc_num.specs.declared.Flags.{Flags}
use Rattle.dcc_num.specs.Numbers.{no_flags}
pub use Rattle.dcc_num.specs.Halves.{half_of_word, word_with_half}
use Rattle.dcc_machine.specs.declared.image.Image.{Image}
use Rattle.dcc_machine.specs.declared.instr.Ea.{Ea}
use Rattle.dcc_machine.specs.declared.segment.TheConstants.{CS, SS, DS}
use Rattle.dcc_machine.specs.declared.instr.Operand.{Operand}
use Rattle.dcc_machine.specs.declared.instr.Operand.TheVariants.{Word, Byte, Seg, Mem, Const}
use Rattle.dcc_machine.specs.Load.{prefix_segment, image_address}

-- a state of the machine
pub record State : Type 0 where
  -- the word registers by number: AX, CX, DX, BX, SP, BP, SI, DI
  pub regs : List ℕ
  -- the segment registers by number: ES, CS, SS, DS
  pub segs : List ℕ
  pub flags : Flags
  pub ip : ℕ
  -- 1,048,576 bytes by physical address
  pub memory : List ℕ
  -- the input bytes that are not yet taken, and what has happened at the console, the oldest first
  pub input : List ℕ
  pub events : List Event
  pub end : End

-- Registers.

-- the number of a word register
abbrev pub reg_number : Reg → ℕ
reg_number Ax = 0
reg_number Cx = 1
reg_number Dx = 2
reg_number Bx = 3
reg_number Sp = 4
reg_number Bp = 5
reg_number Si = 6
reg_number Di = 7

-- AX, CX, DX, BX, SI or DI
abbrev pub is_general : Reg → Bool
is_general Sp = false
is_general Bp = false
is_general r = true

-- what a word register holds
abbrev pub word_in : State → Reg → ℕ
word_in s r = slice_index s.regs (reg_number r)

abbrev pub with_word_in : State → Reg → ℕ → State
with_word_in s r word = record s { regs = slice_set s.regs (reg_number r) word }

-- what CS, SS and DS hold
abbrev pub code_segment : State → ℕ
code_segment s = slice_index s.segs CS

abbrev pub stack_segment : State → ℕ
stack_segment s = slice_index s.segs SS

abbrev pub data_segment : State → ℕ
data_segment s = slice_index s.segs DS

-- Memory.

-- the physical address of an offset in a segment
abbrev pub physical : ℕ → ℕ → ℕ
physical segment offset = (segment * 16 + offset) % 1048576

-- the byte at an offset in a segment
abbrev pub byte_in : State → ℕ → ℕ → ℕ
byte_in s segment offset = slice_index s.memory (physical segment offset)

-- the word at an offset in a segment, low byte first; the offset of its second byte wraps
abbrev pub word_at_offset : State → ℕ → ℕ → ℕ
word_at_offset s segment offset =
    byte_in s segment offset + 256 * byte_in s segment ((offset + 1) % 65536)

abbrev pub with_byte_in : State → ℕ → ℕ → ℕ → State
with_byte_in s segment offset byte =
    record s { memory = slice_set s.memory (physical segment offset) byte }

abbrev pub with_word_at_offset : State → ℕ → ℕ → ℕ → State
with_word_at_offset s segment offset word =
    with_byte_in (with_byte_in s segment offset (word % 256)) segment ((offset + 1) % 65536) (word / 256)

-- Operands.

-- what a part of an address adds to it
abbrev pub part_of : State → Option Reg → ℕ
part_of s None = 0
part_of s (Some r) = word_in s r

-- the offset of a memory operand
abbrev pub offset_of : State → Ea → ℕ
offset_of s ea = (part_of s ea.base + part_of s ea.index + ea.disp) % 65536

abbrev pub is_bp : Option Reg → Bool
is_bp (Some Bp) = true
is_bp _ = false

-- the segment of a memory operand: that of the stack where BP is used, else that of the data
abbrev pub segment_of : State → Ea → ℕ
segment_of s ea = if is_bp ea.base || is_bp ea.index then stack_segment s else data_segment s

-- what an operand holds
abbrev pub operand_value : State → Operand → ℕ
operand_value s (Word r) = word_in s r
operand_value s (Byte r half) = half_of_word half (word_in s r)
operand_value s (Seg number) = slice_index s.segs number
operand_value s (Mem byte_width ea) = byte_in s (segment_of s ea) (offset_of s ea)
operand_value s (Mem word_width ea) = word_at_offset s (segment_of s ea) (offset_of s ea)
operand_value s (Const width constant) = constant

-- the state after an operand has taken a value
abbrev pub with_operand : State → Operand → ℕ → State
with_operand s (Word r) v = with_word_in s r v
with_operand s (Byte r half) v = with_word_in s r (word_with_half half (word_in s r) v)
with_operand s (Seg number) v = record s { segs = slice_set s.segs number v }
with_operand s (Mem byte_width ea) v = with_byte_in s (segment_of s ea) (offset_of s ea) v
with_operand s (Mem word_width ea) v = with_word_at_offset s (segment_of s ea) (offset_of s ea) v
with_operand s (Const width constant) v = s

-- the width of an operand
abbrev pub operand_width : Operand → Width
operand_width (Word r) = word_width
operand_width (Byte r half) = byte_width
operand_width (Seg number) = word_width
operand_width (Mem width ea) = width
operand_width (Const width constant) = width

-- the operand is a segment register
abbrev pub is_segment : Operand → Bool
is_segment (Seg number) = true
is_segment operand = false

-- The start.

-- memory with the load image at its physical address and 0 elsewhere
unfoldable pub loaded_memory : List ℕ → List ℕ
loaded_memory bytes =
    replicate image_address 0 ++ (bytes ++ replicate (1048576 - (image_address + length bytes)) 0)

-- the state in which the image is started, with this input: DS and ES hold the segment of the program prefix
abbrev pub start_state : Image → List ℕ → State
start_state image input = record {
  regs = 0 ∷ 0 ∷ 0 ∷ 0 ∷ image.sp ∷ 0 ∷ 0 ∷ 0 ∷ [];
  segs = prefix_segment ∷ image.cs ∷ image.ss ∷ prefix_segment ∷ [];
  flags = no_flags;
  ip = image.ip;
  memory = loaded_memory image.bytes.items;
  input = input;
  events = [];
  end = Running;
}
