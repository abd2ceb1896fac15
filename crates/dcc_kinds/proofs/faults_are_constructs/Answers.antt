use Rattle.dcc_kinds.proofs.KindLaws.{faults-are_constructs}
use Rattle.dcc_kinds.proofs.faults_are_constructs.Goals as goal

pub returns : goal.returns
returns c = faults-are_constructs
