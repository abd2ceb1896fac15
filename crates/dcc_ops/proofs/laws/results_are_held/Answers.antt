use Rattle.dcc_ops.proofs.HeldLaws.{results_held}
use Rattle.dcc_ops.proofs.laws.results_are_held.Goals as goal

pub returns : goal.returns
returns g c = results_held g.C.SomeCoupling.before c.requires
