use Rattle.dcc_kinds.proofs.KindLaws.{constructs-are_faults}
use Rattle.dcc_kinds.proofs.constructs_are_faults.Goals as goal

pub returns : goal.returns
returns c = constructs-are_faults
