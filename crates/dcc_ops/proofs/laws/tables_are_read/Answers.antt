use Rattle.dcc_ops.proofs.TableLaws.{tables_read}
use Rattle.dcc_ops.proofs.laws.tables_are_read.Goals as goal

pub returns : goal.returns
returns g c = tables_read g.C.SomeCoupling.before c.requires
