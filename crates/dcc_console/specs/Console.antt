-- What is run: systems with a console, and code that executes them.
use Rattle.std.specs.Prelude.{ℕ, List}
use Rattle.dcc_run.specs.End.{End}
use Rattle.dcc_run.specs.Event.{Event}
use Rattle.dcc_run.specs.System.{System, after, out_after, end_after}

-- A system with a console. What has happened at the console by a state is told by the system; what the state has left
-- of the input is told here, as is the state that differs in what it has left alone.
pub record Console (S : Type 0) : Type 0 where
  pub system : System S
  pub left : S → List ℕ
  pub with_left : List ℕ → S → S

-- a system with a console, and the state in which it starts on an input
pub record Subject (S : Type 0) : Type 0 where
  pub console : Console S
  pub start : List ℕ → S

-- the state after `n` steps on the input
abbrev pub state_after : {S : Type 0} → Subject S → ℕ → List ℕ → S
state_after subject steps input = after subject.console.system.step steps (subject.start input)

-- the output of `n` steps on the input
abbrev pub output_after : {S : Type 0} → Subject S → ℕ → List ℕ → List ℕ
output_after subject steps input = out_after subject.console.system steps (subject.start input)

-- how the run on the input has ended after `n` steps, if it has
abbrev pub ending_after : {S : Type 0} → Subject S → ℕ → List ℕ → End
ending_after subject steps input = end_after subject.console.system steps (subject.start input)

-- Code that executes systems with a console. There is a system for each W: for each text, say, or for each processor.
-- What the code keeps, a C, stands for states of the system, whatever these have left to read and has happened at
-- their consoles.
pub record Executor (W C S : Type 0) : Type 1 where
  pub console : W → Console S
  pub stands : W → C → S → Type 0

-- the step of one of the systems; what its states have left, what has happened by them, and how they have ended
abbrev pub step_in : {W C S : Type 0} → Executor W C S → W → S → S
step_in executor w = (executor.console w).system.step

abbrev pub left_in : {W C S : Type 0} → Executor W C S → W → S → List ℕ
left_in executor w = (executor.console w).left

abbrev pub events_in : {W C S : Type 0} → Executor W C S → W → S → List Event
events_in executor w = (executor.console w).system.events

abbrev pub end_in : {W C S : Type 0} → Executor W C S → W → S → End
end_in executor w = (executor.console w).system.end
