-- The watch as code that executes watched machines, and what its answers tell.
use Rattle.std.specs.Prelude.{◌≡◌, ◌+◌, ◌-◌, ◌/◌, Bool, true, false, not, ◌&&◌, []}
use Rattle.dcc_run.specs.End.{is_over}
use Rattle.dcc_machine.specs.declared.image.Image.{Image}
use Rattle.dcc_prog.specs.declared.frame.Program.{Program}
use Rattle.dcc_machine.specs.Machine.{start_state}
use Rattle.dcc_prog.specs.Watch.{Watch, Stage, AtStart, InPrelude, InProcedures, Stopped, watched_machine}
use Rattle.dcc_console.specs.Console.{Console, Executor}
use Rattle.dcc_console.specs.Counts.{CountsFaults}
use Rattle.dcc_console.specs.Steps.{Outcome, made, Steps}
use Rattle.dcc_step.specs.declared.ending.Stepped.{Stepped}
use Rattle.dcc_step.specs.declared.ending.Stepped.TheVariants.{Running as StillRunning, InFault, OutFault}
use Rattle.dcc_step.specs.Core.{core_of}
use Rattle.dcc_step.specs.Stepped as machine
use Rattle.dcc_watch.specs.declared.judge.Foul.{Foul as FoulStep}
use Rattle.dcc_watch.specs.declared.watched.Watched.{Watched}
use Rattle.dcc_watch.specs.declared.watched.Watched.TheVariants.{Clean, Foul}
use Rattle.dcc_watch.specs.Shapes.{shapes_of}
use Rattle.dcc_watch.specs.Watching.{Watching}

-- a program's watched machine, with its console
abbrev pub console_of : Program → Console Watch
console_of program = record {
  system = (watched_machine program).system;
  left = λ w. w.machine.input;
  with_left = λ input w. record { machine = record w.machine { input = input }; stage = w.stage };
}

-- what is kept stands for a state of a program's watched machine
pub record Stands (program : Program) (code : Watching) (w : Watch) : Type 0 where
  pub layout : code.layout ≡ program.layout
  pub shapes : code.shapes ≡ shapes_of program.procs.items program.cells.frames.items
  pub machine : core_of program.layout.cpu w.machine ≡ code.machine
  pub stage : w.stage ≡ code.stage

-- the code that makes the steps of watched machines
abbrev pub watched : Executor Program Watching Watch
watched = record { console = console_of; stands = Stands }

-- the run has been stopped at a foul step
abbrev pub is_stopped : Stage → Bool
is_stopped AtStart = false
is_stopped InPrelude = false
is_stopped (InProcedures stack) = false
is_stopped (Stopped foul) = true

-- the run stands before the first frame
abbrev pub is_at_first : Stage → Bool
is_at_first AtStart = true
is_at_first InPrelude = true
is_at_first (InProcedures stack) = false
is_at_first (Stopped foul) = false

-- the run stands in procedures
abbrev pub is_in_procedures : Stage → Bool
is_in_procedures AtStart = false
is_in_procedures InPrelude = false
is_in_procedures (InProcedures stack) = true
is_in_procedures (Stopped foul) = false

-- the run has neither ended nor been stopped
abbrev pub is_going : Watching → Bool
is_going code = not (is_over code.machine.end) && not (is_stopped code.stage)

-- by its answer a step was made, and the run goes on
abbrev pub goes_on : Watched → Bool
goes_on (Clean StillRunning) = true
goes_on answer = false

-- by its answer a step of the machine was refused
abbrev pub is_refused : Stepped → Bool
is_refused InFault = true
is_refused OutFault = true
is_refused stepped = false

-- how a step or a run came out, by its answer
abbrev pub outcome_of : Watched → Outcome
outcome_of (Clean stepped) = machine.outcome_of stepped
outcome_of (Foul at address kind) = made

-- what a foul step answers
abbrev pub foul_answer : FoulStep → Watched
foul_answer foul = Foul foul.at foul.address foul.kind

-- What an answer tells of where the run stands after it: that it has ended, and how, or goes on; or that it was
-- stopped at a foul step, which is told only then.
abbrev pub Tells : Watched → Watching → Type 0
Tells (Clean stepped) code = (code.machine.end ≡ machine.end_told stepped) × (is_stopped code.stage ≡ false)
Tells (Foul at address kind) code = code.stage ≡ Stopped (record { at = at; kind = kind; address = address })

-- What a step leaves, by its answer. A fault is answered only where its count rose.
pub record StepAnswers (answered : Watched) (before now : machine.Counted Watching) : Type 0 where
  pub step : Steps watched (outcome_of answered) before.state now.state
  pub tells : Tells answered now.state.code
  pub faults : CountsFaults (answered ≡ Clean InFault) (answered
      ≡ Clean OutFault) before.reads now.reads before.writes now.writes

-- the watch at the start of an image's run on a program's processor: there is room for as many frames as return
-- addresses fit the stack, and for that of the entry procedure
abbrev pub first_watching : Image → Program → Watching
first_watching image program = record {
  layout = program.layout;
  shapes = shapes_of program.procs.items program.cells.frames.items;
  room = (program.layout.hi - program.layout.lo) / 2 + 1;
  machine = core_of program.layout.cpu (start_state image []);
  stage = AtStart;
}
