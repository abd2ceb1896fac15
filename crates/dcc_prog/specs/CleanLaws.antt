-- Laws on clean runs: fronts of clean runs are clean; what uses no stack is clean and leaves the stack as it is; SP is
-- after a step what is told of it; and the marks are those of the bytes that steps have stored since SP last left them
-- behind.
use Rattle.std.specs.Prelude.{◌≡◌, ℕ, suc, ◌≤◌, ◌<◌, ◌↔◌, nat_lt, Bool, true, false, not, ◌&&◌, ◌||◌, List, [], length}
use Rattle.std.specs.Prelude.{Contains, Some, None}
use Rattle.dcc_run.specs.End.{is_over}
use Rattle.dcc_run.specs.System.{after}
use Rattle.dcc_run.specs.Watched.{state}
use Rattle.dcc_num.specs.declared.Width.TheVariants.{Word as word_width}
use Rattle.dcc_num.specs.declared.Reg.TheVariants.{Sp, Bp}
use Rattle.dcc_num.specs.declared.Half.TheVariants.{Low, High}
use Rattle.dcc_num.specs.Numbers.{wrapped_of}
use Rattle.dcc_machine.specs.declared.cpu.Cpu.{Cpu}
use Rattle.dcc_machine.specs.declared.image.Image.{Image}
use Rattle.dcc_prog.specs.declared.procedure.Layout.{Layout}
use Rattle.dcc_prog.specs.declared.frame.Program.{Program}
use Rattle.dcc_machine.specs.declared.instr.Operand.{Operand}
use Rattle.dcc_machine.specs.declared.instr.Operand.TheVariants.{Word}
use Rattle.dcc_machine.specs.declared.instr.Op.{Op}
use Rattle.dcc_machine.specs.declared.instr.Op.TheVariants.{Mov, Lea, Push, Pop, Enter, Leave, Call, Ret}
use Rattle.dcc_machine.specs.declared.instr.Instr.{Instr}
use Rattle.dcc_machine.specs.MzImage.{IsLoaded}
use Rattle.dcc_machine.specs.Machine.{State, word_in, start_state}
use Rattle.dcc_machine.specs.Step.{op_step, step}
use Rattle.dcc_machine.specs.WellFormed.{IsOperation}
use Rattle.dcc_machine.specs.Writes.{is_half_of, writes_half}
use Rattle.dcc_machine.specs.SpAndBp.{is_sp_move}
use Rattle.dcc_machine.specs.StateForm.{IsState}
use Rattle.dcc_prog.specs.Layout.{HasLayout}
use Rattle.dcc_machine.specs.Access.{is_direct, found_accesses, step_accesses}
use Rattle.dcc_prog.specs.Clean.{Stack, stack_bytes, stored_bytes, top_in, sp_after, is_low, is_marked, foul_of}
use Rattle.dcc_prog.specs.Clean.{stack_after, first_stack}
use Rattle.dcc_prog.specs.Watch.{Stage, InProcedures, next_instruction, watched_machine, first_watch, IsClean}

-- the state of the program's machine after so many steps from the start of the image
abbrev pub machine_after : Program → Image → List ℕ → ℕ → State
machine_after program image input n = after (step program.layout.cpu) n (start_state image input)

-- where the watched run of the program stands after `n` steps
abbrev pub stage_at : Program → Image → List ℕ → ℕ → Stage
stage_at program image input n = (state (watched_machine program) n (first_watch image input)).stage

-- Fronts.

abbrev pub FrontsOfCleanRunsAreClean : Type 0
FrontsOfCleanRunsAreClean =
    (cpu : Cpu) (image : Image) (input : List ℕ) (m n : ℕ) → m ≤ n → IsClean cpu image input n
    → IsClean cpu image input m

-- What uses no stack.

-- a CALL or a RET
abbrev pub moves_frames : Op → Bool
moves_frames (Call target) = true
moves_frames (Ret count) = true
moves_frames op = false

-- the instruction touches no byte of the stack, is no CALL or RET, and would leave SP in its bounds
pub record UsesNoStack (layout : Layout) (s : State) (instr : Instr) : Type 0 where
  pub bytes : stack_bytes layout (found_accesses (Some instr) s) ≡ []
  pub frames : moves_frames instr.op ≡ false
  pub bounds : is_low layout (sp_after instr.op s) ≡ false

-- the next instruction of the machine, if it makes a step, touches no byte of the stack, is no CALL or RET, and would
-- leave SP in its bounds
abbrev pub NextUsesNoStack : Layout → State → Type 0
NextUsesNoStack layout s =
    is_over s.end ≡ false → (instr : Instr) → next_instruction layout.cpu s ≡ Some instr → UsesNoStack layout s instr

-- A step that uses no stack is clean, and leaves the frames; it leaves the marks too where SP doesn't rise, or nothing
-- is marked. Where each step from the prelude's end on uses no stack, the run is clean, and the stack is as it was
-- there.
pub record WhatUsesNoStackIsClean : Type 0 where
  pub clean :
      (program : Program) (stack : Stack) (s : State) (instr : Instr) → UsesNoStack program.layout s instr
      → foul_of program stack s (Some instr) ≡ None
  pub frames :
      (layout : Layout) (stack : Stack) (s t : State) (instr : Instr) → UsesNoStack layout s instr
      → (stack_after layout (Some instr) s t stack).frames ≡ stack.frames
  pub left :
      (layout : Layout) (stack : Stack) (s t : State) (instr : Instr) → UsesNoStack layout s instr
      → top_in layout t ≤ top_in layout s → stack_after layout (Some instr) s t stack ≡ stack
  pub unmarked :
      (layout : Layout) (start s t : State) (instr : Instr) → UsesNoStack layout s instr
      → stack_after layout (Some instr) s t (first_stack layout start) ≡ first_stack layout start
  pub stays :
      (program : Program) (image : Image) (input : List ℕ) (n : ℕ) → IsLoaded image
      → (has : HasLayout image program.layout) → length has.prelude ≤ n
      → ((k : ℕ) → length has.prelude ≤ k → k < n
      → NextUsesNoStack program.layout (machine_after program image input k))
      → stage_at program image input n
      ≡ InProcedures (first_stack program.layout (machine_after program image input (length has.prelude)))
  pub run :
      (cpu : Cpu) (image : Image) (input : List ℕ) (n : ℕ) → IsLoaded image
      → ((program : Program) → program.layout.cpu ≡ cpu → (has : HasLayout image program.layout)
      → (k : ℕ) → length has.prelude ≤ k → k < n
      → NextUsesNoStack program.layout (machine_after program image input k))
      → IsClean cpu image input n

-- SP.

-- the operation writes no half of an operand's register if that is SP
abbrev pub spares_sp : Operand → Bool
spares_sp a = not (is_half_of Sp Low a) && not (is_half_of Sp High a)

-- What SP is after the operation is told: it doesn't write SP; or it does so as frames do, by PUSH, CALL, RET or
-- LEAVE, a POP of something else, ENTER with a word, `mov sp,bp`, LEA of SP from BP without an index, or a move of
-- SP.
abbrev pub tells_sp : Op → Bool
tells_sp (Push a) = true
tells_sp (Pop a) = spares_sp a
tells_sp (Call target) = true
tells_sp (Ret count) = true
tells_sp (Enter count) = nat_lt count 65536
tells_sp Leave = true
tells_sp (Mov (Word Sp) (Word Bp)) = true
tells_sp (Lea Sp ea) = is_direct ea
tells_sp op = is_sp_move op || (not (writes_half op Sp Low) && not (writes_half op Sp High))

-- SP after an operation is what `sp_after` tells, modulo 65,536, where `tells_sp` holds
abbrev pub SpIsAsTold : Type 0
SpIsAsTold =
    (cpu : Cpu) (op : Op) (at : ℕ) (s : State) → IsOperation op → IsState s → tells_sp op ≡ true
    → word_in (op_step cpu op at s) Sp ≡ wrapped_of word_width (sp_after op s)

-- Marks.

-- a step from this state stores the byte
abbrev pub IsStoredBy : Layout → State → ℕ → Type 0
IsStoredBy layout s offset = Contains (stored_bytes layout (step_accesses layout.cpu s)) offset

-- from the one state to the other SP rises past the byte
abbrev pub IsLeftBehind : Layout → State → State → ℕ → Type 0
IsLeftBehind layout s t offset = (top_in layout s ≤ offset) × (offset < top_in layout t)

-- One of the first n steps of a run has stored the byte, and by none of them from that one on has SP risen past it. The
-- step that stores it may itself leave it behind.
pub record IsStoredSince (layout : Layout) (run : ℕ → State) (n offset : ℕ) : Type 0 where
  pub at : ℕ
  pub before : at < n
  pub stored : IsStoredBy layout (run at) offset
  pub kept : (k : ℕ) → at ≤ k → k < n → ¬ IsLeftBehind layout (run k) (run (suc k)) offset

-- in every run, as long as it isn't stopped, just the bytes are marked that its steps have stored since SP last left
-- them behind
abbrev pub StoredBytesAreMarked : Type 0
StoredBytesAreMarked =
    (program : Program) (image : Image) (input : List ℕ) (n : ℕ) (stack : Stack) → IsLoaded image
    → HasLayout image program.layout → stage_at program image input n ≡ InProcedures stack
    → (offset : ℕ)
    → (is_marked stack.written offset ≡ true)
    ↔ IsStoredSince program.layout (machine_after program image input) n offset
