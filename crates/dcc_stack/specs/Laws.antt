-- The laws of the machine's stack in clean runs.
use Rattle.std.specs.Prelude.{◌≡◌, ◌≤◌, ◌<◌, ℕ, ◌+◌, ◌-◌, ◌/◌, false, List, [], ◌∷◌, drop, length, slice_index, Some}
use Rattle.std.specs.Prelude.{None}
use Rattle.dcc_run.specs.End.{is_over}
use Rattle.dcc_run.specs.Watched.{state}
use Rattle.dcc_num.specs.declared.Reg.TheVariants.{Bp}
use Rattle.dcc_machine.specs.declared.cpu.Cpu.{Cpu}
use Rattle.dcc_machine.specs.declared.image.Image.{Image}
use Rattle.dcc_prog.specs.declared.frame.Program.{Program}
use Rattle.dcc_machine.specs.declared.instr.Op.{Op}
use Rattle.dcc_machine.specs.declared.instr.Op.TheVariants.{Call, Ret}
use Rattle.dcc_machine.specs.declared.instr.Instr.{Instr}
use Rattle.dcc_machine.specs.Machine.{State, word_in}
use Rattle.dcc_machine.specs.Step.{step}
use Rattle.dcc_prog.specs.Clean.{Stack, top_in, foul_of, stack_after}
use Rattle.dcc_prog.specs.Watch.{Watch, InProcedures, next_instruction, watched_machine, first_watch}
use Rattle.dcc_stack.specs.Accepted.{IsProgramOfFile}
use Rattle.dcc_stack.specs.Standing.{Activation, StackStands}

-- a file's image with the program that the analyses find in it, and an input of bytes
pub record IsRunOf (cpu : Cpu) (image : Image) (program : Program) (input : List ℕ) : Type 0 where
  pub program_is : IsProgramOfFile cpu image program
  pub bytes : (k : ℕ) → slice_index input k < 256

-- the watched run after so many steps
abbrev pub watch_after : Program → Image → List ℕ → ℕ → Watch
watch_after program image input n = state (watched_machine program) n (first_watch image input)

-- Procedures that have begun, the newest first, after a step.

-- a procedure stands in another place, and has passed the one before
abbrev pub at_next : Activation → ℕ → Activation
at_next a next = record { frame = a.frame; at = next; before = a.at ∷ a.before; caller_bp = a.caller_bp }

-- the newest one does
abbrev pub newest_at : ℕ → List Activation → List Activation
newest_at next [] = []
newest_at next (a ∷ callers) = at_next a next ∷ callers

-- A CALL begins one, with the first of these numbers as SP's offset and the second in BP; a RET ends one. The machine
-- stands at the third one after the step.
abbrev pub activations_after : Op → ℕ → ℕ → ℕ → List Activation → List Activation
activations_after (Call target) top bp next activations =
    (record { frame = record { entry = target; base = top }; at = target; before = []; caller_bp = bp }) ∷ activations
activations_after (Ret count) top bp next activations = newest_at next (drop 1 activations)
activations_after op top bp next activations = newest_at next activations

-- the stack stands after a step, with the procedures that its instruction leaves
pub record StandsAfter (image : Image) (program : Program) (s : State) (stack : Stack)
    (stands : StackStands image program.layout s stack) : Type 0 where
  pub instr : Instr
  pub found : next_instruction program.layout.cpu s ≡ Some instr
  pub after :
      StackStands image program.layout (step program.layout.cpu s)
      (stack_after program.layout (next_instruction program.layout.cpu s) s (step program.layout.cpu s) stack)
  pub activations :
      after.newest ∷ after.callers
      ≡ activations_after instr.op (top_in program.layout s) (word_in s Bp) (step program.layout.cpu s).ip
      (stands.newest ∷ stands.callers)

-- a clean step that doesn't end the run leads from a stack that stands to one that does
abbrev pub CleanStepsStand : Type 0
CleanStepsStand =
    (cpu : Cpu) (image : Image) (program : Program) (s : State) (stack : Stack)
    → IsProgramOfFile cpu image program → (stands : StackStands image program.layout s stack) → is_over s.end ≡ false
    → foul_of program stack s (next_instruction program.layout.cpu s) ≡ None
    → is_over (step program.layout.cpu s).end ≡ false
    → StandsAfter image program s stack stands

-- as long as the run neither has ended nor was stopped, the stack stands wherever it is in procedures
abbrev pub FramesStand : Type 0
FramesStand =
    (cpu : Cpu) (image : Image) (program : Program) (input : List ℕ) (n : ℕ) (stack : Stack)
    → IsRunOf cpu image program input
    → is_over (watch_after program image input n).machine.end ≡ false
    → (watch_after program image input n).stage ≡ InProcedures stack
    → StackStands image program.layout (watch_after program image input n).machine stack

-- no more frames live than return addresses fit the stack, and one more, that of the entry procedure
abbrev pub FramesAreFew : Type 0
FramesAreFew =
    (cpu : Cpu) (image : Image) (program : Program) (input : List ℕ) (n : ℕ) (stack : Stack)
    → IsRunOf cpu image program input
    → is_over (watch_after program image input n).machine.end ≡ false
    → (watch_after program image input n).stage ≡ InProcedures stack
    → length stack.frames ≤ (program.layout.hi - program.layout.lo) / 2 + 1

-- where a CALL is clean there is room for one more frame
abbrev pub CallsHaveRoom : Type 0
CallsHaveRoom =
    (image : Image) (program : Program) (s : State) (stack : Stack) (instr : Instr) (target : ℕ)
    → StackStands image program.layout s stack → instr.op ≡ Call target
    → foul_of program stack s (Some instr) ≡ None
    → length stack.frames + 1 ≤ (program.layout.hi - program.layout.lo) / 2 + 1
