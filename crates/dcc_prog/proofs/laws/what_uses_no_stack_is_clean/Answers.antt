use Rattle.dcc_prog.proofs.CleanLaws.{no_stack-clean_run}
use Rattle.dcc_prog.proofs.laws.what_uses_no_stack_is_clean.Goals as goal

pub returns : goal.returns
returns c = no_stack-clean_run
