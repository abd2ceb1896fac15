use Rattle.dcc_globals.proofs.MemoryLaws.{memories-equal}
use Rattle.dcc_globals.proofs.laws.first_memories_are_equal.Goals as goal

pub returns : goal.returns
returns c = memories-equal
