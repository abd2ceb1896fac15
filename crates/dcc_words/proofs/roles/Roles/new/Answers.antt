use Rattle.std.proofs.Common.{arith, ◌∙◌}
use Rattle.std.proofs.lemmas.List.{length-set}
use Rattle.dcc_words.proofs.RoleLaws.{roles-step}
use Rattle.dcc_words.proofs.roles.Roles.new.Goals as goal

pub loop-k-preserved : goal.loop-k-preserved
loop-k-preserved c = record {
  count = length-set _ _ _ ∙ length-set _ _ _ ∙ c.loop-k.invariant.count;
  inside = omega (arith, c.loop-k.invariant.inside);
  are =
      roles-step c.args.bits.now c.args.pairs.now c.loop-k.of.items c.loop-k.k (record { low = 0; high = 0 }) c.in_ok-word.word c.requires c.loop-k.invariant.count
      (omega (arith, c.loop-k-test.true)) c.loop-k.invariant.inside (omega (arith, c.in_ok-word.ensures)) c.loop-k.invariant.are;
}
