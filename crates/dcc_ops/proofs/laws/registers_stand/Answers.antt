use Rattle.dcc_ops.proofs.PerformedLaws.{registers_stand}
use Rattle.dcc_ops.proofs.laws.registers_stand.Goals as goal

pub returns : goal.returns
returns g c = registers_stand g.C.SomeCoupling.before c.requires
