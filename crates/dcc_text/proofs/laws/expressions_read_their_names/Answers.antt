use Rattle.dcc_text.proofs.Depths.{read-alike}
use Rattle.dcc_text.proofs.laws.expressions_read_their_names.Goals as goal

pub returns : goal.returns
returns c = read-alike
