use Rattle.dcc_map.proofs.RunLaws.{reports_agree}
use Rattle.dcc_map.proofs.laws.equal_reports_agree.Goals as goal

pub returns : goal.returns
returns c = reports_agree
