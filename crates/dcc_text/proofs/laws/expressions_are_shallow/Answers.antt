use Rattle.dcc_text.proofs.Depths.{shallow}
use Rattle.dcc_text.proofs.laws.expressions_are_shallow.Goals as goal

pub returns : goal.returns
returns c = shallow
