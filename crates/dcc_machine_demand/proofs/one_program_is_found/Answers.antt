use Rattle.dcc_machine_demand.proofs.RefusedLaws.{one-program_is_found}
use Rattle.dcc_machine_demand.proofs.one_program_is_found.Goals as goal

pub returns : goal.returns
returns c = one-program_is_found
