use Rattle.std.proofs.Common.{ℕ, Option, nat_eq, ◌+◌, take, sym, subst, rules}
use Rattle.std.proofs.lemmas.List.{take_all}
use Rattle.dcc_prog.specs.declared.refusal.Refusal.TheVariants.{Memory}
use Rattle.dcc_prog.specs.Refused.{no_memory}
use Rattle.indexmap.specs.IndexMap.{get}
use Rattle.dcc_frames.specs.Ready.{AreFramesAt, IsFramesRefusal}
use Rattle.dcc_frames.proofs.AllFrames.{ready-at, frames-more}
use Rattle.dcc_frames.proofs.frames.frames.Goals as goal

pub returns-in_err-frame-clause-refused : goal.returns-in_err-frame-clause-refused
returns-in_err-frame-clause-refused c =
    let bodies = c.args.bodies.now in
    let counts : ℕ → Option ℕ = λ entry. get nat_eq c.args.counts.now entry in
    let refusal = c.in_err-frame.field-0.0 in
    let named : IsFramesRefusal bodies counts c.args.delta refusal = λ image layout ready.
    c.in_err-frame.ensures.refused image layout
    (ready-at image layout bodies counts c.args.delta ready c.loop-body.body-index c.body-item.result
    c.loop-body-test.true c.body-item.is) in
    search rules

pub returns-in_err-push-clause-refused : goal.returns-in_err-push-clause-refused
returns-in_err-push-clause-refused c =
    let counts : ℕ → Option ℕ = λ entry. get nat_eq c.args.counts.now entry in
    let named : IsFramesRefusal c.args.bodies.now counts c.args.delta Memory = λ image layout ready. no_memory in
    search rules

pub loop-body-preserved : goal.loop-body-preserved
loop-body-preserved c = λ image layout ready.
    let i = c.loop-body.body-index in
    let bodies = c.args.bodies.now in
    let body = c.body-item.result in
    subst (AreFramesAt image layout (take (i + 1) bodies)) (sym c.in_ok-push.ensures.items)
    (frames-more image layout bodies i body c.loop-body.frames.items c.in_ok-frame.field-0 c.loop-body-test.true
    c.body-item.is
    (c.loop-body.invariant image layout ready)
    (c.in_ok-frame.ensures.frame image layout
    (ready-at image layout bodies _ c.args.delta ready i body c.loop-body-test.true c.body-item.is)))

pub returns-clause-frames : goal.returns-clause-frames
returns-clause-frames c = λ image layout ready.
    subst (λ l. AreFramesAt image layout l c.loop-body.frames.items)
    (take_all c.loop-body.body-index c.args.bodies.now c.loop-body-test.false)
    (c.loop-body.invariant image layout ready)
