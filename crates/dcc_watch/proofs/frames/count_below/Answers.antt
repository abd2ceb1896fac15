use Rattle.std.proofs.Common.{◌∙◌, sym, arith}
use Rattle.dcc_watch.proofs.OrderLaws.{halved-first, halved-below, halved-whole}
use Rattle.dcc_watch.proofs.frames.count_below.Goals as goal

pub loop-low-init : goal.loop-low-init
loop-low-init c = halved-first c.args.lives.now c.args.offset

pub loop-low-preserved-then-ends_by : goal.loop-low-preserved-then-ends_by
loop-low-preserved-then-ends_by c =
    halved-below c.args.lives.now c.args.offset c.loop-low.low c.loop-low.high _ _ _ c.loop-low.invariant c.requires.ordered
    (omega arith) (omega (arith, c.loop-low-test.true)) (sym c.ends_by.ensures ∙ c.if-ends_by.true)

pub returns : goal.returns
returns c = record {
  few = omega (arith, c.loop-low.invariant.inside, c.loop-low.invariant.within);
  below = halved-whole c.args.lives.now c.args.offset c.loop-low.low c.loop-low.high c.loop-low.invariant (omega (arith, c.loop-low-test.false));
}
