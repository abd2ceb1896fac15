-- The layout of a program of the small memory model: one segment of code, and above it one segment of data in which the
-- stack lies too. The prelude, the instructions from the entry on that load registers and segments alone, sets it up.
use Rattle.std.specs.Prelude.{◌≡◌, ◌≤◌, ◌<◌, ℕ, ◌+◌, ◌-◌, ◌*◌, ◌==◌, nat_lt, min, Bool, true, false, ◌||◌}
use Rattle.std.specs.Prelude.{if◌then◌else◌, List, [], ◌∷◌, length, drop, Some}
use Rattle.std.specs.List.{list_any}
use Rattle.dcc_run.specs.System.{after}
use Rattle.dcc_num.specs.declared.Reg.TheVariants.{Sp}
use Rattle.dcc_machine.specs.declared.cpu.Cpu.{Cpu}
use Rattle.dcc_machine.specs.declared.image.Image.{Image}
use Rattle.dcc_prog.specs.declared.procedure.Layout.{Layout}
use Rattle.dcc_machine.specs.declared.instr.Alu.TheVariants.{Add, Sub}
use Rattle.dcc_machine.specs.declared.instr.Shift.TheVariants.{Shl}
use Rattle.dcc_machine.specs.declared.instr.Plain.{Plain}
use Rattle.dcc_machine.specs.declared.instr.Plain.TheVariants.{Nop, Cli, Sti, Cld}
use Rattle.dcc_machine.specs.declared.instr.Operand.{Operand}
use Rattle.dcc_machine.specs.declared.instr.Operand.TheVariants.{Word, Byte, Seg, Const}
use Rattle.dcc_machine.specs.declared.instr.Op.{Op}
use Rattle.dcc_machine.specs.declared.instr.Op.TheVariants.{Alu as AluOp, Shift as ShiftOp, Mov, Plain as PlainOp}
use Rattle.dcc_machine.specs.declared.instr.Instr.{Instr}
use Rattle.dcc_machine.specs.declared.segment.TheConstants.{ES, SS, DS}
use Rattle.dcc_machine.specs.Operations.{is_control}
use Rattle.dcc_machine.specs.Load.{load_segment}
use Rattle.dcc_machine.specs.Code.{code_of}
use Rattle.dcc_machine.specs.Table.{instruction_at}
use Rattle.dcc_machine.specs.Machine.{State, word_in, stack_segment, data_segment, start_state}
use Rattle.dcc_machine.specs.Step.{step}

-- The instructions of a prelude.

-- ES, SS or DS, by the number of the segment register
abbrev pub is_data_segment : ℕ → Bool
is_data_segment number = (number == ES) || ((number == SS) || (number == DS))

-- a MOV of a constant to a register, between two registers of one width, or between a word register and ES, SS or DS
abbrev pub is_prelude_move : Operand → Operand → Bool
is_prelude_move (Word r) (Const width constant) = true
is_prelude_move (Byte r half) (Const width constant) = true
is_prelude_move (Word r) (Word q) = true
is_prelude_move (Byte r half) (Byte q other) = true
is_prelude_move (Word r) (Seg number) = is_data_segment number
is_prelude_move (Seg number) (Word r) = is_data_segment number
is_prelude_move to from = false

-- an ADD or SUB with a word register and a register or constant
abbrev pub is_prelude_sum : Operand → Operand → Bool
is_prelude_sum (Word r) (Word q) = true
is_prelude_sum (Word r) (Const width constant) = true
is_prelude_sum to from = false

-- a word register
abbrev pub is_word_register : Operand → Bool
is_word_register (Word r) = true
is_word_register operand = false

-- CLI, STI, CLD or NOP
abbrev pub is_prelude_plain : Plain → Bool
is_prelude_plain Nop = true
is_prelude_plain Cli = true
is_prelude_plain Sti = true
is_prelude_plain Cld = true
is_prelude_plain operation = false

-- the operation may stand in a prelude: MOV, ADD and SUB of the forms above, SHL of a word register, CLI, STI, CLD,
-- NOP
abbrev pub is_prelude_form : Op → Bool
is_prelude_form (Mov to from) = is_prelude_move to from
is_prelude_form (AluOp Add a b) = is_prelude_sum a b
is_prelude_form (AluOp Sub a b) = is_prelude_sum a b
is_prelude_form (ShiftOp Shl a count) = is_word_register a
is_prelude_form (PlainOp operation) = is_prelude_plain operation
is_prelude_form op = false

-- a segment register or SP
abbrev pub is_segment_or_sp : Operand → Bool
is_segment_or_sp (Seg number) = true
is_segment_or_sp (Word Sp) = true
is_segment_or_sp operand = false

-- a prelude may end after the operation: it writes a segment register or SP, or is CLI, STI or CLD
abbrev pub may_end_prelude : Op → Bool
may_end_prelude (Mov to from) = is_segment_or_sp to
may_end_prelude (AluOp operation a b) = is_segment_or_sp a
may_end_prelude (ShiftOp operation a count) = is_segment_or_sp a
may_end_prelude (PlainOp operation) = is_control operation
may_end_prelude op = false

-- the operation writes DS
abbrev pub writes_ds : Op → Bool
writes_ds (Mov (Seg number) from) = number == DS
writes_ds op = false

-- The prelude.

-- the instruction stands at an offset, wholly in the code, and may stand in a prelude
pub record IsFormAt (cpu : Cpu) (code : List ℕ) (at : ℕ) (instr : Instr) : Type 0 where
  pub found : instruction_at cpu at (drop at code) ≡ Some instr
  pub form : is_prelude_form instr.op ≡ true

-- instructions that may stand in a prelude stand one after another from an offset on
abbrev pub IsRun : Cpu → List ℕ → ℕ → List Instr → Type 0
IsRun cpu code at [] = Unit {0}
IsRun cpu code at (instr ∷ rest) = IsFormAt cpu code at instr × IsRun cpu code (at + instr.len) rest

-- the offset after instructions that stand one after another from an offset on
abbrev pub offset_after : ℕ → List Instr → ℕ
offset_after at [] = at
offset_after at (instr ∷ rest) = offset_after (at + instr.len) rest

-- the list is empty, or a prelude may end after its last instruction
abbrev pub ends_prelude : List Instr → Bool
ends_prelude [] = true
ends_prelude (instr ∷ []) = may_end_prelude instr.op
ends_prelude (instr ∷ next ∷ rest) = ends_prelude (next ∷ rest)

-- the prelude: the longest run from the entry after whose last instruction a prelude may end
pub record IsPrelude (cpu : Cpu) (code : List ℕ) (entry : ℕ) (prelude : List Instr) : Type 0 where
  pub run : IsRun cpu code entry prelude
  pub ends : ends_prelude prelude ≡ true
  pub longest : (other : List Instr) → IsRun cpu code entry other → ends_prelude other ≡ true
      → length other ≤ length prelude

-- the machine's state after the prelude: as many steps from the start as the prelude has instructions
unfoldable pub state_after : Cpu → Image → List Instr → State
state_after cpu image prelude = after (step cpu) (length prelude) (start_state image [])

-- The layout.

-- the lowest offset of the stack in the data segment: where the stack segment begins at the start, if that lies above
-- the data segment; else where the image ends, or 0 if that lies below the data segment
abbrev pub lowest_of_stack : Image → ℕ → ℕ
lowest_of_stack image ds =
    if nat_lt ds image.ss then (image.ss - ds) * 16
    else load_segment * 16 + length image.bytes.items - ds * 16

-- the values of a layout are those that the prelude leaves
pub record IsLeftBy (image : Image) (prelude : List Instr) (layout : Layout) : Type 0 where
  pub regs : layout.regs ≡ (state_after layout.cpu image prelude).regs
  pub flags : layout.flags ≡ (state_after layout.cpu image prelude).flags
  pub ds : layout.ds ≡ data_segment (state_after layout.cpu image prelude)
  pub delta : layout.ds * 16 + layout.delta ≡ stack_segment (state_after layout.cpu image prelude) * 16
  pub lo : layout.lo ≡ lowest_of_stack image layout.ds
  pub hi : layout.hi ≡ word_in (state_after layout.cpu image prelude) Sp + layout.delta
  pub start_ip : layout.start_ip ≡ offset_after image.ip prelude
  -- the code ends where the data segment begins, or before, where the image ends or at offset 65536
  pub code_end : layout.code_end ≡ min ((layout.ds - image.cs) * 16) image.code_len

-- the values keep to the small memory model
pub record IsSmall (image : Image) (layout : Layout) : Type 0 where
  pub code_below : image.cs < layout.ds
  pub ds_fits : layout.ds ≤ 0xF000
  pub delta_fits : layout.delta ≤ 65535
  pub hi_fits : layout.hi ≤ 65535
  pub has_stack : layout.lo < layout.hi
  pub has_code : layout.start_ip < layout.code_end

-- the layout holds of the image on its processor: the prelude writes DS and leaves these values, and they keep to the
-- small memory model
pub record HasLayout (image : Image) (layout : Layout) : Type 0 where
  pub prelude : List Instr
  pub is_prelude : IsPrelude layout.cpu (code_of image) image.ip prelude
  pub ds_written : list_any (λ instr. writes_ds instr.op) prelude ≡ true
  pub left : IsLeftBy image prelude layout
  pub small : IsSmall image layout
