-- The machine's run with the frames that live, and how far it is clean.
use Rattle.std.specs.Prelude.{◌≡◌, ℕ, ◌==◌, Bool, true, false, ◌||◌, if◌then◌else◌, List, [], ◌∷◌, Option, Some, None}
use Rattle.dcc_run.specs.End.{is_over}
use Rattle.dcc_run.specs.ProgramPoint.{ProgramPoint}
use Rattle.dcc_run.specs.Watched.{Watched, state}
use Rattle.dcc_machine.specs.declared.cpu.Cpu.{Cpu}
use Rattle.dcc_machine.specs.declared.image.Image.{Image}
use Rattle.dcc_prog.specs.declared.procedure.Layout.{Layout}
use Rattle.dcc_prog.specs.declared.frame.Program.{Program}
use Rattle.dcc_machine.specs.declared.instr.Instr.{Instr}
use Rattle.dcc_machine.specs.Table.{instruction_at}
use Rattle.dcc_machine.specs.Machine.{State, start_state}
use Rattle.dcc_machine.specs.Step.{step, code_bytes}
use Rattle.dcc_prog.specs.Analysed.{IsProgramOf}
use Rattle.dcc_prog.specs.Clean.{Stack, Foul, foul_of, stack_after, first_stack}

-- where a run stands
pub data Stage : Type 0 where
  -- the run is at its first instruction
  AtStart : Stage
  -- the run is past its first instruction, and not yet past the prelude
  InPrelude : Stage
  -- the run is in procedures, with their frames
  InProcedures : Stack → Stage
  -- the run was stopped at a step that is foul, before it was made
  Stopped : Foul → Stage

-- the machine, and where its run stands
pub record Watch : Type 0 where
  pub machine : State
  pub stage : Stage

-- where the run stands after the step of an instruction, if one was found, from one state to another; the first frame
-- begins where the run first comes to the offset after the prelude
abbrev pub stage_after : Layout → Option Instr → State → State → Stage → Stage
stage_after layout found s t (InProcedures stack) = InProcedures (stack_after layout found s t stack)
stage_after layout found s t (Stopped foul) = Stopped foul
stage_after layout found s t stage =
    if t.ip == layout.start_ip then InProcedures (first_stack layout t) else InPrelude

-- the instruction that the machine executes next, if one stands there
abbrev pub next_instruction : Cpu → State → Option Instr
next_instruction cpu s = instruction_at cpu s.ip (code_bytes s)

-- what is foul of the next step, if anything; the steps before the first frame are clean
abbrev pub next_foul : Program → Watch → Option Foul
next_foul program w = elim w.stage [
  | AtStart ↦ None
  | InPrelude ↦ None
  | InProcedures stack ↦ foul_of program stack w.machine (next_instruction program.layout.cpu w.machine)
  | Stopped foul ↦ None
]

-- the run has been stopped at a foul step
abbrev pub is_foul : Watch → Bool
is_foul w = elim w.stage [ AtStart ↦ false | InPrelude ↦ false | InProcedures stack ↦ false | Stopped foul ↦ true ]

-- the watch after the next step is made
abbrev pub moved : Layout → Watch → Watch
moved layout w =
    let next = step layout.cpu w.machine in record {
      machine = next;
      stage = stage_after layout (next_instruction layout.cpu w.machine) w.machine next w.stage;
    }

-- the next step is made, unless it is foul
abbrev pub made : Layout → Option Foul → Watch → Watch
made layout None w = moved layout w
made layout (Some foul) w = record w { stage = Stopped foul }

-- one step of a watched run; a run that has ended or was stopped stays
abbrev pub watch_step : Program → Watch → Watch
watch_step program w = if is_over w.machine.end || is_foul w then w else made program.layout (next_foul program w) w

-- The place where the run stands: an offset in the procedure of the newest frame. The first instruction counts as one
-- of the entry procedure's, and those that follow it in the prelude are at no place.
abbrev pub place_of : Layout → Watch → Option ProgramPoint
place_of layout w = elim w.stage [
  | AtStart ↦ Some (record { entry = layout.start_ip; at = w.machine.ip })
  | InPrelude ↦ None
  | InProcedures stack ↦ elim stack.frames [
    | [] ↦ None
    | live ∷ callers ↦ Some (record { entry = live.entry; at = w.machine.ip })
  ]
  | Stopped foul ↦ None
]

-- the runs of the machine with the program's processor, watched
abbrev pub watched_machine : Program → Watched Watch ProgramPoint
watched_machine program = record {
  system = record { step = watch_step program; events = λ w. w.machine.events; end = λ w. w.machine.end };
  mark = place_of program.layout;
  foul = is_foul;
}

-- the start of an image's run
abbrev pub first_watch : Image → List ℕ → Watch
first_watch image input = record { machine = start_state image input; stage = AtStart }

-- none of the first n steps of the image's run on a processor and an input is foul, or none of those before it ended;
-- of an image that is refused this says nothing
abbrev pub IsClean : Cpu → Image → List ℕ → ℕ → Type 0
IsClean cpu image input n =
    (program : Program) → IsProgramOf cpu image program
    → is_foul (state (watched_machine program) n (first_watch image input)) ≡ false
