use Rattle.dcc_machine_demand.proofs.MadeLaws.{alike-stays}
use Rattle.dcc_machine_demand.proofs.what_instructions_make_alike_is_alike.Goals as goal

pub returns : goal.returns
returns c = alike-stays
