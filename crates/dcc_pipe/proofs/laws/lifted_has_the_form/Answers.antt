use Rattle.dcc_pipe.proofs.TextableLaws.{lifted-has_the_form}
use Rattle.dcc_pipe.proofs.laws.lifted_has_the_form.Goals as goal

pub returns : goal.returns
returns c = lifted-has_the_form
