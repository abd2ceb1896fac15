-- The accesses of an operation to memory: the bytes that it reads and writes there, in the order of the machine. The
-- instruction's own bytes are none of them.
use Rattle.std.specs.Prelude.{◌≡◌, ℕ, ◌+◌, ◌/◌, ◌%◌, ◌==◌, Bool, true, false, ◌&&◌, if◌then◌else◌, List, [], ◌∷◌, ◌++◌}
use Rattle.std.specs.Prelude.{length, map, min, slice_index, slice_set, Contains, Option, Some, None, is_none}
use Rattle.std.specs.List.{range_with_len}
use Rattle.dcc_run.specs.End.{is_over}
use Rattle.dcc_num.specs.declared.Width.{Width}
use Rattle.dcc_num.specs.declared.Width.TheVariants.{Byte as byte_width, Word as word_width}
use Rattle.dcc_num.specs.declared.Reg.TheVariants.{Ax, Dx, Bx, Sp, Bp}
use Rattle.dcc_num.specs.declared.Half.TheVariants.{Low}
use Rattle.dcc_num.specs.declared.dos.TheConstants.{PUTS, STRING_MOST}
use Rattle.dcc_machine.specs.declared.cpu.Cpu.{Cpu}
use Rattle.dcc_machine.specs.declared.instr.Unary.{Unary}
use Rattle.dcc_machine.specs.declared.instr.Unary.TheVariants.{Inc, Dec, Neg, Not}
use Rattle.dcc_machine.specs.declared.instr.Plain.{Plain}
use Rattle.dcc_machine.specs.declared.instr.Plain.TheVariants.{Xlat}
use Rattle.dcc_machine.specs.declared.instr.Ea.{Ea}
use Rattle.dcc_machine.specs.declared.instr.Operand.{Operand}
use Rattle.dcc_machine.specs.declared.instr.Operand.TheVariants.{Mem}
use Rattle.dcc_machine.specs.declared.instr.Op.{Op}
use Rattle.dcc_machine.specs.declared.instr.Op.TheVariants.{Alu as AluOp, Unary as UnaryOp, Shift as ShiftOp, Mov, Xchg}
use Rattle.dcc_machine.specs.declared.instr.Op.TheVariants.{Imul3, Push, Pop, Enter, Leave, Plain as PlainOp, Table}
use Rattle.dcc_machine.specs.declared.instr.Op.TheVariants.{Call, Ret, Int21}
use Rattle.dcc_machine.specs.declared.instr.Instr.{Instr}
use Rattle.dcc_machine.specs.Machine.{State, word_in, half_of_word, code_segment, stack_segment, data_segment, physical}
use Rattle.dcc_machine.specs.Machine.{offset_of, segment_of, operand_value, with_operand, is_bp}
use Rattle.dcc_machine.specs.Operations.{with_sp_raised}
use Rattle.dcc_machine.specs.Dos.{dos_string}
use Rattle.dcc_machine.specs.Table.{instruction_at}
use Rattle.dcc_machine.specs.Step.{code_bytes}
use Rattle.dcc_machine.specs.Writes.{writes_operand}

pub data Direction : Type 0 where
  Reading : Direction
  Writing : Direction

pub data Kind : Type 0 where
  -- the word that PUSH, POP, CALL, RET, ENTER or LEAVE moves to the stack or from it
  OfStack : Kind
  -- a memory operand at BP plus a displacement, without an index
  OfFrame : Kind
  -- another access: a memory operand elsewhere, the byte of XLAT, the word of a table, the string of a DOS call
  Other : Kind

-- an access: `size` bytes from an offset in a segment on, read or written
pub record Access : Type 0 where
  pub direction : Direction
  pub kind : Kind
  pub segment : ℕ
  pub offset : ℕ
  pub size : ℕ

-- Operands.

abbrev pub bytes_in : Width → ℕ
bytes_in byte_width = 1
bytes_in word_width = 2

-- BP plus a displacement, without an index
abbrev pub is_direct : Ea → Bool
is_direct ea = is_bp ea.base && is_none ea.index

abbrev pub kind_of : Ea → Kind
kind_of ea = if is_direct ea then OfFrame else Other

-- an operand is read or written: one access, where it lies in memory
abbrev pub operand_accesses : Direction → Operand → State → List Access
operand_accesses direction (Mem width ea) s =
    (record {
      direction = direction;
      kind = kind_of ea;
      segment = segment_of s ea;
      offset = offset_of s ea;
      size = bytes_in width;
    })
    ∷ []
operand_accesses direction operand s = []

-- an operand that is written where that is so
abbrev pub result_accesses : Bool → Operand → State → List Access
result_accesses so x s = if so then operand_accesses Writing x s else []

-- INC, DEC, NEG and NOT put their result into their operand
abbrev pub writes_back : Unary → Bool
writes_back Inc = true
writes_back Dec = true
writes_back Neg = true
writes_back Not = true
writes_back operation = false

-- XCHG reads both operands, and writes both after that
abbrev pub exchange_accesses : Operand → Operand → State → List Access
exchange_accesses a b s =
    operand_accesses Reading a s
    ++ (operand_accesses Reading b s
    ++ (operand_accesses Writing a s
    ++ operand_accesses Writing b (with_operand s a (operand_value s b))))

-- The stack.

-- the word at an offset of the stack
abbrev pub stack_access : Direction → ℕ → State → Access
stack_access direction offset s =
    record { direction = direction; kind = OfStack; segment = stack_segment s; offset = offset; size = 2 }

-- a word is stored below the top of the stack
abbrev pub push_access : State → Access
push_access s = stack_access Writing ((word_in s Sp + 65534) % 65536) s

-- Other accesses.

abbrev pub other_read : ℕ → ℕ → ℕ → Access
other_read segment offset size =
    record { direction = Reading; kind = Other; segment = segment; offset = offset; size = size }

-- how many bytes call 09h reads: the string and its `$`, and at most 65,536
abbrev pub string_size : State → ℕ
string_size s = min (length (dos_string s) + 1) STRING_MOST

-- the accesses of INT 21h by the number of the call: call 09h reads its string
abbrev pub dos_accesses : ℕ → State → List Access
dos_accesses number s = if number == PUTS then other_read (data_segment s) (word_in s Dx) (string_size s) ∷ [] else []

abbrev pub plain_accesses : Plain → State → List Access
plain_accesses Xlat s =
    other_read (data_segment s) ((word_in s Bx + half_of_word Low (word_in s Ax)) % 65536) 1 ∷ []
plain_accesses operation s = []

-- The accesses of an operation, with the instruction pointer after it: an operand is read before it is pushed, and a
-- word is popped before it is stored. A shift or rotate by 0 reads and writes its operand too.
abbrev pub accesses : Op → State → List Access
accesses (AluOp operation a b) s =
    operand_accesses Reading a s
    ++ (operand_accesses Reading b s ++ result_accesses (writes_operand operation) a s)
accesses (UnaryOp operation a) s = operand_accesses Reading a s ++ result_accesses (writes_back operation) a s
accesses (ShiftOp operation a count) s = operand_accesses Reading a s ++ operand_accesses Writing a s
accesses (Mov to from) s = operand_accesses Reading from s ++ operand_accesses Writing to s
accesses (Xchg a b) s = exchange_accesses a b s
accesses (Imul3 r a constant) s = operand_accesses Reading a s
accesses (Push a) s = operand_accesses Reading a s ++ push_access s ∷ []
accesses (Pop a) s = stack_access Reading (word_in s Sp) s ∷ operand_accesses Writing a (with_sp_raised 2 s)
accesses (Enter count) s = push_access s ∷ []
accesses Leave s = stack_access Reading (word_in s Bp) s ∷ []
accesses (PlainOp operation) s = plain_accesses operation s
accesses (Table r offset) s = other_read (code_segment s) ((word_in s r + offset) % 65536) 2 ∷ []
accesses (Call target) s = push_access s ∷ []
accesses (Ret count) s = stack_access Reading (word_in s Sp) s ∷ []
accesses Int21 s = dos_accesses (word_in s Ax / 256) s
accesses op s = []

-- The accesses of the instruction that was found, with the instruction pointer after it. `step_accesses`: the accesses
-- of a step; a state that has ended makes none.
abbrev pub found_accesses : Option Instr → State → List Access
found_accesses None s = []
found_accesses (Some instr) s = accesses instr.op (record s { ip = (s.ip + instr.len) % 65536 })

abbrev pub step_accesses : Cpu → State → List Access
step_accesses cpu s =
    if is_over s.end then [] else found_accesses (instruction_at cpu s.ip (code_bytes s)) s

-- Bytes.

-- the physical address of the byte at an index in an access, whose offset wraps
abbrev pub address_in : Access → ℕ → ℕ
address_in access k = physical access.segment ((access.offset + k) % 65536)

-- the physical addresses of the bytes of an access
abbrev pub addresses_of : Access → List ℕ
addresses_of access = map (address_in access) (range_with_len 0 access.size)

-- the addresses of an access, if it reads; `written_in`: if it writes
abbrev pub read_in : Direction → List ℕ → List ℕ
read_in Reading addresses = addresses
read_in Writing addresses = []

abbrev pub written_in : Direction → List ℕ → List ℕ
written_in Reading addresses = []
written_in Writing addresses = addresses

-- the physical addresses that are read
abbrev pub read_by : List Access → List ℕ
read_by [] = []
read_by (access ∷ rest) = read_in access.direction (addresses_of access) ++ read_by rest

-- the physical addresses that are written
abbrev pub written_by : List Access → List ℕ
written_by [] = []
written_by (access ∷ rest) = written_in access.direction (addresses_of access) ++ written_by rest

-- how many bytes tell which instruction stands at an offset, or that none does
abbrev pub fetched_size : Option Instr → ℕ
fetched_size None = 6
fetched_size (Some instr) = instr.len

-- the physical addresses of `size` bytes of the code, from the instruction pointer on
abbrev pub code_addresses : State → ℕ → List ℕ
code_addresses s size = map (λ k. physical (code_segment s) ((s.ip + k) % 65536)) (range_with_len 0 size)

-- the physical addresses that a step reads: those of the instruction's bytes, and those of its accesses
abbrev pub found_reads : Option Instr → State → List ℕ
found_reads found s = code_addresses s (fetched_size found) ++ read_by (found_accesses found s)

abbrev pub step_reads : Cpu → State → List ℕ
step_reads cpu s = if is_over s.end then [] else found_reads (instruction_at cpu s.ip (code_bytes s)) s

-- Memory.

abbrev pub with_memory : List ℕ → State → State
with_memory memory s = record s { memory = memory }

-- two memories hold the same bytes at the given physical addresses
abbrev pub AgreeAt : List ℕ → List ℕ → List ℕ → Type 0
AgreeAt addresses memory other =
    (address : ℕ) → Contains addresses address → slice_index memory address ≡ slice_index other address

-- a byte is stored at a physical address
pub record Store : Type 0 where
  pub address : ℕ
  pub byte : ℕ

-- memory after a list of bytes was stored in it, one after another
abbrev pub stored : List Store → List ℕ → List ℕ
stored [] memory = memory
stored (store ∷ rest) memory = stored rest (slice_set memory store.address store.byte)

-- What an act takes from memory and does to it: whatever memory holds elsewhere than at the addresses that it reads, it
-- stores the same bytes at the addresses that it writes, one after another, and is the same but for that.
pub record ActsBy (reads writes : List ℕ) (act : State → State) (s : State) : Type 0 where
  pub stores : List Store
  pub addresses : map (λ (store : Store). store.address) stores ≡ writes
  pub alike :
      (memory : List ℕ) → AgreeAt reads memory s.memory
      → act (with_memory memory s) ≡ with_memory (stored stores memory) (act s)

-- an act reads and writes memory as a list of accesses tells
abbrev pub ActsByAccesses : List Access → (State → State) → State → Type 0
ActsByAccesses list act s = ActsBy (read_by list) (written_by list) act s
