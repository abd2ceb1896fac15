use Rattle.dcc_machine.proofs.MemoryKept.{memory-kept}
use Rattle.dcc_machine.proofs.laws.memory_changes_at_writes_alone.Goals as goal

pub returns : goal.returns
returns c = memory-kept
