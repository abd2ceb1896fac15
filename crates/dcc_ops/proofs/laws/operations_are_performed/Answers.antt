use Rattle.dcc_ops.proofs.PerformedLaws.{performed}
use Rattle.dcc_ops.proofs.laws.operations_are_performed.Goals as goal

pub returns : goal.returns
returns g c = performed g.C.SomeCoupling.before g.C.SomeCoupling.after c.requires.before c.requires.after
