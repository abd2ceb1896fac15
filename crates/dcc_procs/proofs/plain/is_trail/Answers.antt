use Rattle.std.proofs.Common.{◌-◌, get_or, Contains, sym, ◌∙◌, subst, arith}
use Rattle.std.proofs.lemmas.List.{take_rest}
use Rattle.dcc_prog.specs.Trail.{successors}
use Rattle.dcc_procs.proofs.Trails.{trail-further, trail-broken}
use Rattle.dcc_procs.proofs.plain.is_trail.Goals as goal

pub returns-then-not-branch : goal.returns-then-not-branch
returns-then-not-branch c =
    let image = c.args.image.now in
    let layout = c.args.layout.now in
    let trail = c.args.trail.now in
    let place = c.loop-place.place in
    let broken = trail-broken image layout c.args.entry trail place (omega arith) (omega arith)
    (λ goes.
    let there =
    subst (λ l. Contains (successors image layout l) (get_or trail (place - 1) 0)) (sym (take_rest trail place))
    goes in
    let clash = sym c.if-not-branch.true ∙ c.in_ok-goes_on_to.ensures.1 there in cc)
    c.loop-place.invariant in
    (λ t. absurd (let clash = t in cc), λ t. absurd (broken t))

pub loop-place-preserved : goal.loop-place-preserved
loop-place-preserved c =
    let image = c.args.image.now in
    let layout = c.args.layout.now in
    let trail = c.args.trail.now in
    let place = c.loop-place.place in
    trail-further image layout c.args.entry trail place (omega arith) (omega arith)
    (subst (λ l. Contains (successors image layout l) (get_or trail (place - 1) 0)) (take_rest trail place) (c.in_ok-goes_on_to.ensures.0 c.if-not-branch.false))
    c.loop-place.invariant
