use Rattle.std.proofs.Common.{Bool, sym, ◌∙◌}
use Rattle.dcc_frames.specs.declared.steps.Step.{Step}
use Rattle.dcc_frames.specs.Inside.{is_allowed}
use Rattle.dcc_frames.proofs.Checks.{allowed-more, told-at, allowed-all}
use Rattle.dcc_frames.proofs.access.check_accesses.Goals as goal

pub returns-then-not-is_allowed-clause-refused : goal.returns-then-not-is_allowed-clause-refused
returns-then-not-is_allowed-clause-refused c =
    rw c.fault_in-fault.ensures
    (told-at _ c.args.body.now.steps.items c.deref-step-items.result.now c.deref-step-items.ensures.value
    c.loop-step.step-index _
    c.loop-step-test.true _ (sym c.is_allowed.ensures ∙ c.if-not-is_allowed.true))

pub loop-step-preserved : goal.loop-step-preserved
loop-step-preserved c =
    let allowed : Step → Bool = λ step. is_allowed c.args.body.now.framed c.args.body.now.args
    c.args.lacks_addresses step in
    allowed-more allowed c.args.body.now.steps.items c.deref-step-items.result.now c.deref-step-items.ensures.value
    c.loop-step.step-index _
    c.loop-step-test.true c.loop-step.invariant (sym c.is_allowed.ensures ∙ c.if-not-is_allowed.false)

pub returns-clause-allowed : goal.returns-clause-allowed
returns-clause-allowed c =
    let allowed : Step → Bool = λ step. is_allowed c.args.body.now.framed c.args.body.now.args
    c.args.lacks_addresses step in
    allowed-all allowed c.args.body.now.steps.items c.deref-step-items.result.now c.deref-step-items.ensures.value
    c.loop-step.step-index
    c.loop-step-test.false c.loop-step.invariant
