use Rattle.dcc_sigs.proofs.Faults.{no-fault}
use Rattle.dcc_sigs.proofs.laws.sigs_have_no_fault.Goals as goal

pub returns : goal.returns
returns c = no-fault
