use Rattle.dcc_machine.proofs.MemoryKept.{acts-either}
use Rattle.dcc_machine.proofs.laws.bytes_are_alike_or_left.Goals as goal

pub returns : goal.returns
returns c = acts-either
