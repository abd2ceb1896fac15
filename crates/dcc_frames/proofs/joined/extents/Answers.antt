use Rattle.std.proofs.Common.{◌+◌, [], take, sym, subst}
use Rattle.std.proofs.lemmas.List.{take_all}
use Rattle.dcc_frames.specs.Extents.{AreExtents, with_last}
use Rattle.dcc_frames.proofs.ExtentLaws.{extents-none, extents-more}
use Rattle.dcc_frames.proofs.joined.extents.Goals as goal

pub loop-piece-init : goal.loop-piece-init
loop-piece-init c =
    let none = c.new-extents.ensures.items in (λ is. none, λ asc. subst (AreExtents []) (sym none) extents-none)

pub loop-piece-preserved : goal.loop-piece-preserved
loop-piece-preserved c = (
  λ is. absurd (cc),
  λ asc.
      subst (AreExtents (take (c.loop-piece.piece-index + 1) c.args.pieces.now)) (sym c.in_ok-join.ensures)
      (extents-more c.args.pieces.now asc c.loop-piece.piece-index _ c.loop-piece-test.true c.loop-piece.extents.items
      c.loop-piece.last
      c.loop-piece.invariant.0 (c.loop-piece.invariant.1 asc)),
)

pub returns : goal.returns
returns c = λ asc.
    subst (AreExtents c.args.pieces.now) (sym c.in_ok-close.ensures)
    (subst (λ l. AreExtents l (with_last c.loop-piece.extents.items c.loop-piece.last))
    (take_all c.loop-piece.piece-index c.args.pieces.now c.loop-piece-test.false) (c.loop-piece.invariant.1 asc))
