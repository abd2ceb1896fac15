use Rattle.dcc_ir.proofs.passes.ReplaceLaws.{kept_with}
use Rattle.dcc_ir.proofs.laws.assignments_may_go.Goals as goal

pub returns : goal.returns
returns g c = λ before after closed without p formed known. kept_with p g.F.SomeFamily.family before after formed known closed without
