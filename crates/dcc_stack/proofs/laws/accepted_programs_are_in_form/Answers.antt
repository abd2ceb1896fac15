use Rattle.dcc_stack.proofs.FormLaws.{in-form}
use Rattle.dcc_stack.proofs.laws.accepted_programs_are_in_form.Goals as goal

pub returns : goal.returns
returns c = in-form
