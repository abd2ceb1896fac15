use Rattle.dcc_machine.proofs.MemoryKept.{steps-act}
use Rattle.dcc_machine.proofs.laws.steps_act_by_accesses.Goals as goal

pub returns : goal.returns
returns c = steps-act
