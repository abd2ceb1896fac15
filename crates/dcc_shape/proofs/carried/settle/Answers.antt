use Rattle.std.proofs.Common.{◌≡◌, ◌<◌, ◌≤◌, ◌+◌, ℕ, Bool, true, false, refl, sym, true≢false, arith}
use Rattle.std.specs.Prelude.{if◌then◌else◌}
use Rattle.dcc_shape.specs.Carrying.{holds, strangers}
use Rattle.dcc_shape.proofs.CarryLaws.{no-more-strangers}
use Rattle.dcc_shape.proofs.carried.settle.Goals as goal

-- fewer are left, or as many after the last round
less : (new old : ℕ) (grown was : Bool) → was ≡ true → new ≤ old → (grown ≡ true → new < old)
    → new + (if grown then 1 else 0) < old + (if was then 1 else 0)
less new old true true is few fewer = omega (arith, fewer refl)
less new old false true is few fewer = omega (arith, few)
less new old grown false is few fewer = absurd (true≢false (sym is))

pub loop-grown-smaller : goal.loop-grown-smaller
loop-grown-smaller c =
    let list = c.args.list.now in
    less (strangers (holds c.follow_all.new.names) list) (strangers (holds c.loop-grown.names) list) c.in_ok-grown.grown
    c.loop-grown.grown c.loop-grown-test.true
    (no-more-strangers (holds c.loop-grown.names) (holds c.follow_all.new.names) c.in_ok-grown.ensures.more list)
    c.in_ok-grown.ensures.fewer
