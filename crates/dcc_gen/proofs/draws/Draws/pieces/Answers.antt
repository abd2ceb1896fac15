use Rattle.std.proofs.Common.{All, List, sym, subst, arith}
use Rattle.std.specs.List.{flat_map}
use Rattle.std.proofs.lemmas.List.Elements.{All-push}
use Rattle.dcc_gen.specs.declared.piece.Piece.{Piece}
use Rattle.dcc_gen.specs.Draws.{AreDrawn}
use Rattle.dcc_gen.specs.Pieces.{draws_of, IsInRange}
use Rattle.dcc_gen.proofs.DrawLaws.{drawn-more}
use Rattle.dcc_gen.proofs.draws.Draws.pieces.Goals as goal

pub loop-preserved : goal.loop-preserved
loop-preserved c =
    let draws = draws_of c.args.kinds in
    let pieces = c.loop.pieces.items in
    let piece = c.piece-piece.result in
    let items = c.in_ok-push.ensures.items in
    let after = c.piece-piece.new.self.state in
    let Drawn : List Piece → Type 0 = λ xs. AreDrawn (flat_map draws xs) c.args.self.now.state after in
    record {
      count = omega (arith, c.in_ok-push.ensures.len);
      drawn = subst Drawn (sym items)
          (drawn-more draws pieces piece c.args.self.now.state c.loop.self.state after c.loop.invariant.drawn c.piece-piece.ensures.drawn);
      in_range = subst (All IsInRange) (sym items) (All-push IsInRange pieces piece c.loop.invariant.in_range c.piece-piece.ensures.in_range);
    }
