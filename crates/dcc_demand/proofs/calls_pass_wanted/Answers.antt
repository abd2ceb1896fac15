use Rattle.dcc_demand.proofs.WantedLaws.{calls-pass}
use Rattle.dcc_demand.proofs.calls_pass_wanted.Goals as goal

pub returns : goal.returns
returns g c = calls-pass g.P.SomeProcedures.procedures
