use Rattle.dcc_c.specs.Run.{stack_memory}
use Rattle.dcc_prepare.proofs.start.stack_memory.Goals as goal

pub returns : goal.returns
unfolding stack_memory
returns c = c.first_bytes.ensures
