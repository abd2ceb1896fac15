-- Which bytes of memory a clean step may write: none of the code, of a return address or of a saved BP.
use Rattle.std.specs.Prelude.{◌≡◌, ◌≤◌, ◌<◌, ◌⊎◌, ℕ, ◌+◌, ◌*◌, Bool, true, false, if◌then◌else◌, List, ◌∷◌, slice_index}
use Rattle.std.specs.Prelude.{All, Contains, Some, None}
use Rattle.dcc_run.specs.End.{is_over}
use Rattle.dcc_machine.specs.declared.cpu.Cpu.{Cpu}
use Rattle.dcc_machine.specs.declared.image.Image.{Image}
use Rattle.dcc_prog.specs.declared.procedure.Layout.{Layout}
use Rattle.dcc_prog.specs.declared.frame.Program.{Program}
use Rattle.dcc_machine.specs.declared.instr.Op.{Op}
use Rattle.dcc_machine.specs.declared.instr.Op.TheVariants.{Push, Enter, Call}
use Rattle.dcc_machine.specs.declared.instr.Instr.{Instr}
use Rattle.dcc_machine.specs.Machine.{State}
use Rattle.dcc_prog.specs.Trail.{instruction_in}
use Rattle.dcc_prog.specs.FrameForm.{is_framed}
use Rattle.dcc_machine.specs.Access.{written_by, found_accesses}
use Rattle.dcc_prog.specs.Clean.{Stack, stack_offset, foul_of, top_in}
use Rattle.dcc_prog.specs.Watch.{next_instruction}
use Rattle.dcc_stack.specs.Accepted.{IsProgramOfFile}
use Rattle.dcc_stack.specs.Standing.{Activation, Stand, StackStands, HoldsSegments}

-- how many bytes before a frame's base the saved BP and the return address take
abbrev pub control_size : Image → Layout → Activation → ℕ
control_size image layout a = if is_framed image layout a.frame.entry then 4 else 2

-- the offset isn't that of a byte of the frame's return address or saved BP
abbrev pub IsApart : Image → Layout → ℕ → Activation → Type 0
IsApart image layout offset a =
    (offset + control_size image layout a < a.frame.base) ⊎ (a.frame.base ≤ offset)

-- the operation stores a word below the top of the stack
abbrev pub is_pushing : Op → Bool
is_pushing (Push a) = true
is_pushing (Enter count) = true
is_pushing (Call target) = true
is_pushing op = false

-- A physical address that a clean step may write, with SP at this offset before it: one of the data segment that is no
-- byte of the stack; one of a byte of the stack, not below SP and in no return address or saved BP; or one of the two
-- bytes below SP, by an operation that pushes.
pub data MayWrite (image : Image) (layout : Layout) (activations : List Activation) (top : ℕ) (op : Op)
    : ℕ → Type 0 where
  off_stack :
      {address : ℕ}
      → layout.ds * 16 ≤ address
      → stack_offset layout address ≡ None
      → MayWrite image layout activations top op address
  in_frames :
      {address : ℕ}
      → (offset : ℕ)
      → address ≡ layout.ds * 16 + offset
      → top ≤ offset
      → All (IsApart image layout offset) activations
      → MayWrite image layout activations top op address
  pushed :
      {address : ℕ}
      → (offset : ℕ)
      → address ≡ layout.ds * 16 + offset
      → is_pushing op ≡ true
      → (offset + 1 ≡ top) ⊎ (offset + 2 ≡ top)
      → MayWrite image layout activations top op address

-- two memories differ at addresses alone that a clean step may write
abbrev pub DifferApart : Image → Layout → List Activation → ℕ → Op → List ℕ → List ℕ → Type 0
DifferApart image layout activations top op memory other =
    (address : ℕ)
    → (slice_index other address ≡ slice_index memory address) ⊎ MayWrite image layout activations top op address

-- The laws.

pub record CleanStepsWriteApart : Type 0 where
  -- the machine's next instruction is the one in the image's code
  pub fetched :
      (cpu : Cpu) (image : Image) (program : Program) (s : State) (instr : Instr)
      → IsProgramOfFile cpu image program → HoldsSegments image program.layout s
      → instruction_in image program.layout s.ip ≡ Some instr
      → next_instruction program.layout.cpu s ≡ Some instr
  -- the addresses that a clean step writes are among those that it may write
  pub writes :
      (cpu : Cpu) (image : Image) (program : Program) (s : State) (stack : Stack) (instr : Instr)
      → IsProgramOfFile cpu image program → (stands : StackStands image program.layout s stack)
      → is_over s.end ≡ false → instruction_in image program.layout s.ip ≡ Some instr
      → foul_of program stack s (Some instr) ≡ None → (address : ℕ)
      → Contains (written_by (found_accesses (Some instr) s)) address
      → MayWrite image program.layout (stands.newest ∷ stands.callers) (top_in program.layout s) instr.op address
  -- the code's bytes stay, where memories differ at addresses alone that a clean step may write
  pub code :
      (cpu : Cpu) (image : Image) (program : Program) (activations : List Activation) (top : ℕ) (op : Op)
      (memory other : List ℕ) (at : ℕ) → IsProgramOfFile cpu image program → at < program.layout.code_end
      → DifferApart image program.layout activations top op memory other
      → slice_index other (image.cs * 16 + at) ≡ slice_index memory (image.cs * 16 + at)
  -- the procedures that stand in memory stand in it still, where it changes at addresses alone that a clean step may
  -- write
  pub stands :
      (image : Image) (layout : Layout) (activations : List Activation) (top bp : ℕ) (op : Op) (memory other : List ℕ)
      → layout.lo ≤ top → DifferApart image layout activations top op memory other
      → Stand image layout memory activations top bp
      → Stand image layout other activations top bp
