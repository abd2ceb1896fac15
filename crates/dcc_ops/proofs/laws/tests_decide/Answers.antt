use Rattle.dcc_ops.proofs.TestLaws.{tests_decide}
use Rattle.dcc_ops.proofs.laws.tests_decide.Goals as goal

pub returns : goal.returns
returns g c = tests_decide g.C.SomeCoupling.before c.requires
