use Rattle.std.proofs.Common.{◌≡◌, true, take, All, nat_eq}
use Rattle.indexmap.specs.IndexMap.{get}
use Rattle.dcc_frames.specs.declared.steps.Step.{Step}
use Rattle.dcc_frames.specs.Inside.{has_words}
use Rattle.dcc_frames.proofs.access.check_calls.Given as goal

abbrev pub invariant-loop-step : goal.invariant-loop-step
invariant-loop-step l =
    All (λ (step : Step). has_words (λ entry. get nat_eq l.counts entry) l.body.framed step ≡ true)
    (take l.step-index l.body.steps.items)
