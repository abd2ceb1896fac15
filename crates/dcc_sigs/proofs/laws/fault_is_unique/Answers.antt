use Rattle.dcc_sigs.proofs.Faults.{one-fault}
use Rattle.dcc_sigs.proofs.laws.fault_is_unique.Goals as goal

pub returns : goal.returns
returns c = one-fault
