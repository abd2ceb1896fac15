use Rattle.std.proofs.Common.{◌≡◌, ◌-◌, ◌≤◌, ◌⊎◌, length, min, ap, ◌∙◌, arith, length-set}
use Rattle.std.proofs.lemmas.List.{length-replicate}
use Rattle.dcc_watch.specs.declared.shape.TheConstants.{NO_SHAPE}
use Rattle.dcc_watch.specs.Shapes.{no_shapes}
use Rattle.dcc_watch.proofs.MarkLaws.{filled}
use Rattle.dcc_watch.proofs.ShapeLaws.{shapes-more, shapes-past}
use Rattle.dcc_watch.proofs.shape.shapes.Goals as goal

pub loop-left-preserved : goal.loop-left-preserved
loop-left-preserved c = record {
  procs = omega arith;
  frames = omega arith;
  count = length-set c.loop-left.shapes.items c.from.result c.of.result ∙ c.loop-left.invariant.count;
  filled =
      shapes-more c.as_slice-procs.result.now c.as_slice-frames.result.now (c.loop-left.left - 1) c.loop-left.left c.from.result c.index-procs-left.result c.index-frames-left.result
      c.loop-left.shapes.items c.of.result (omega arith) (omega arith) (omega arith) c.from.ensures c.index-frames-left.is c.of.ensures c.loop-left.invariant.filled;
}

past_either : {m n k : _} → k ≡ min m n → (m ≤ k) ⊎ (n ≤ k)
past_either is = grind arith

pub loop-left-init : goal.loop-left-init
unfolding no_shapes
loop-left-init c =
    let none : c.resize.new.self.items ≡ no_shapes =
    filled 65536 _ _ c.in_ok-shapes.shapes.items c.resize.new.self.items c.in_ok-shapes.ensures.items c.in_ok-shapes.ensures.len c.in_ok-resize.ensures.items in
    record {
      procs = omega (arith, c.min-left.ensures);
      frames = omega (arith, c.min-left.ensures);
      count = ap length none ∙ length-replicate 65536 NO_SHAPE;
      filled = none ∙ shapes-past c.as_slice-procs.result.now c.as_slice-frames.result.now c.min-left.result (past_either c.min-left.ensures);
    }
