use Rattle.dcc_machine.proofs.StartState.{starts-are}
use Rattle.dcc_machine.proofs.laws.starts_are_states.Goals as goal

pub returns : goal.returns
returns c = starts-are
