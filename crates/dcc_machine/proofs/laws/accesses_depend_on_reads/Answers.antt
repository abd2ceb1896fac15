use Rattle.dcc_machine.proofs.MemoryKept.{accesses-same}
use Rattle.dcc_machine.proofs.laws.accesses_depend_on_reads.Goals as goal

pub returns : goal.returns
returns c = accesses-same
