use Rattle.std.proofs.Common.{◌≡◌, true, take, All}
use Rattle.dcc_frames.specs.declared.steps.Step.{Step}
use Rattle.dcc_frames.specs.Inside.{is_allowed}
use Rattle.dcc_frames.proofs.access.check_accesses.Given as goal

abbrev pub invariant-loop-step : goal.invariant-loop-step
invariant-loop-step l =
    All (λ (step : Step). is_allowed l.body.framed l.body.args l.lacks_addresses step ≡ true)
    (take l.step-index l.body.steps.items)
