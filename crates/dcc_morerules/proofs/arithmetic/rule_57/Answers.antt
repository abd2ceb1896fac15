use Rattle.std.proofs.Common.{arith}
use Rattle.dcc_stdrules.specs.declared.moved.Sums.TheVariants.{Returned}
use Rattle.dcc_stdrules.proofs.SumLaws.{further_sums}
use Rattle.dcc_morerules.proofs.arithmetic.rule_57.Goals as goal

pub returns : goal.returns
returns c = further_sums 57 _ Returned _ _ (omega arith) c.summed.ensures
