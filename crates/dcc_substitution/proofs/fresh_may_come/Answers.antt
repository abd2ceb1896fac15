use Rattle.dcc_substitution.proofs.FreshLaws.{fresh-stands}
use Rattle.dcc_substitution.proofs.fresh_may_come.Goals as goal

pub returns : goal.returns
returns c = fresh-stands
