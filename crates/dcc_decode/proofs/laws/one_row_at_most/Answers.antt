use Rattle.dcc_machine.proofs.TableLaws.{at_most_one_row_matches}
use Rattle.dcc_decode.proofs.laws.one_row_at_most.Goals as goal

pub returns : goal.returns
returns c = at_most_one_row_matches
