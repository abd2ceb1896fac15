use Rattle.dcc_stack.proofs.ApartLaws.{writes-apart}
use Rattle.dcc_stack.proofs.FormLaws.{in-form}
use Rattle.dcc_stack.proofs.laws.clean_steps_write_apart.Goals as goal

pub returns : goal.returns
returns c = writes-apart in-form
