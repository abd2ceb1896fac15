use Rattle.std.proofs.Common.{ℕ, List, map, sym, subst, arith}
use Rattle.dcc_gen.specs.Draws.{Draw, AreDrawn}
use Rattle.dcc_gen.proofs.DrawLaws.{draw-more}
use Rattle.dcc_gen.proofs.draws.Draws.words.Goals as goal

pub loop-preserved : goal.loop-preserved
loop-preserved c =
    let draw : ℕ → Draw = λ word. (65536, word) in
    let before = c.args.self.now.state in
    let after = c.number-word.new.self.state in
    let Drawn : List ℕ → Type 0 = λ xs. AreDrawn (map draw xs) before after in
    record {
      count = omega (arith, c.in_ok-push.ensures.len);
      drawn = subst Drawn (sym c.in_ok-push.ensures.items)
          (draw-more draw c.loop.words.items c.number-word.result before c.loop.self.state after c.loop.invariant.drawn c.number-word.ensures.drawn);
    }
