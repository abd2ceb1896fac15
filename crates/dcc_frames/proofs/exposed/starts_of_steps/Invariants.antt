use Rattle.std.proofs.Common.{◌≡◌, take}
use Rattle.dcc_frames.specs.Starts.{starts_by}
use Rattle.dcc_frames.proofs.exposed.starts_of_steps.Given as goal

abbrev pub invariant-loop-step : goal.invariant-loop-step
invariant-loop-step l = l.starts.items ≡ starts_by (take l.step-index l.steps)
