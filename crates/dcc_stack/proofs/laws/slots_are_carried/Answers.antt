use Rattle.dcc_stack.proofs.FormLaws.{in-form}
use Rattle.dcc_stack.proofs.SlotLaws.{slots-carried}
use Rattle.dcc_stack.proofs.laws.slots_are_carried.Goals as goal

pub returns : goal.returns
returns c = slots-carried in-form
