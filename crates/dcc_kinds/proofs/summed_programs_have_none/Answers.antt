use Rattle.dcc_kinds.proofs.KindLaws.{summed-programs_have_none}
use Rattle.dcc_kinds.proofs.summed_programs_have_none.Goals as goal

pub returns : goal.returns
returns c = summed-programs_have_none
