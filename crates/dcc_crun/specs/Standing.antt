-- The state of a text's run that a run of the code stands for.
use Rattle.std.specs.Prelude.{◌≡◌, ℕ, List, [], ◌∷◌, ◌++◌, map, Option, Some, None, slice_get}
use Rattle.std.specs.Option.{option_map}
use Rattle.dcc_run.specs.End.{Running as running}
use Rattle.dcc_c.specs.Tree.{Tree}
use Rattle.dcc_c.specs.Typing.{Declared}
use Rattle.dcc_c.specs.Value.{declared_by}
use Rattle.dcc_c.specs.Run.{Continuation, Frame, Waiting as WaitingCall, State}
use Rattle.dcc_value.specs.declared.expression.Target.{Target}
use Rattle.dcc_crun.specs.declared.call.Call.{Call}
use Rattle.dcc_crun.specs.declared.call.Waiting.{Waiting}
use Rattle.dcc_crun.specs.declared.moment.Moment.{Moment}
use Rattle.dcc_crun.specs.declared.run.CRun.{CRun}
use Rattle.dcc_value.specs.Evaluation.{bindings_named}
use Rattle.dcc_value.specs.Resolved.{target_named, IsTargetIn}
use Rattle.dcc_crun.specs.Ending.{end_of}
use Rattle.dcc_prepare.specs.Programs.{IsProgram}
use Rattle.dcc_prepare.specs.Points.{Goes, locals_declared}

-- Calls.

-- the call has the function, the base and the variables
pub record IsCallOf (tree : Tree) (call : Call) (frame : Frame) : Type 0 where
  pub function : slice_get tree.functions call.procedure ≡ Some frame.function
  pub base : call.base ≡ frame.base
  pub variables : bindings_named (locals_declared frame.function) call.variables.items ≡ frame.variables
  pub declared : map declared_by frame.variables ≡ locals_declared frame.function

abbrev pub IsTargetIf : List Declared → Option Target → Type 0
IsTargetIf names None = Unit {0}
IsTargetIf names (Some target) = IsTargetIn names target

-- a call of the code stands for one of the text that waits, and wants its result at the same place
pub record IsWaiting (tree : Tree) (points : ℕ → List Continuation) (w : Waiting) (waiting : WaitingCall) : Type 0 where
  pub call : IsCallOf tree w.call waiting.frame
  pub rest : Goes tree (points w.call.procedure) w.call.at waiting.rest
  pub target : option_map (target_named (locals_declared waiting.frame.function)) w.target ≡ waiting.target
  pub lands : IsTargetIf (locals_declared waiting.frame.function) w.target

-- the calls of the code that wait stand for those of the text: the last of the list for the newest
abbrev pub AreWaiting : Tree → (ℕ → List Continuation) → List Waiting → List WaitingCall → Type 0
AreWaiting tree points ws [] = ws ≡ []
AreWaiting tree points ws (call ∷ waiting) =
    (others : List Waiting) × (last : Waiting) × (ws ≡ others ++ last ∷ []) × IsWaiting tree points last call
    × AreWaiting tree points others waiting

-- States.

-- a moment of the code stands for a state of a text's run, but for how the text goes on
pub record IsRunning (tree : Tree) (points : ℕ → List Continuation) (m : Moment) (s : State) : Type 0 where
  pub call : IsCallOf tree m.call s.frame
  pub waiting : AreWaiting tree points m.waiting.items s.waiting
  pub fill : m.fill ≡ s.fill
  pub memory : m.memory.items ≡ s.memory
  pub end : end_of m.end ≡ s.end

-- a moment stands for a state of a run that is not over
pub record IsGoing (tree : Tree) (points : ℕ → List Continuation) (m : Moment) (s : State) : Type 0 where
  pub state : IsRunning tree points m s
  pub rest : Goes tree (points m.call.procedure) m.call.at s.rest

-- a moment stands for a state of a run; of a run that is over only its end counts
pub record IsMoment (tree : Tree) (points : ℕ → List Continuation) (m : Moment) (s : State) : Type 0 where
  pub end : end_of m.end ≡ s.end
  pub going : s.end ≡ running → IsGoing tree points m s

-- the run stands for the state of the text's run, but for what is read and written
pub record StandsAt (tree : Tree) (run : CRun) (s : State) : Type 0 where
  pub points : ℕ → List Continuation
  pub program : IsProgram tree points run.program
  pub moment : IsMoment tree points run.moment s
