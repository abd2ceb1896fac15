use Rattle.dcc_ir.proofs.passes.Theorem.{keeps_runs}
use Rattle.dcc_ir.proofs.laws.passes_keep_runs.Goals as goal

pub returns : goal.returns
returns g c = keeps_runs g.P.SomePass.before g.P.SomePass.after g.P.SomePass.pass c.requires
