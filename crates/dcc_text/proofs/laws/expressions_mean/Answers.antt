use Rattle.dcc_text.proofs.ExprLaws.{expressions-mean}
use Rattle.dcc_text.proofs.laws.expressions_mean.Goals as goal

pub returns : goal.returns
returns c = expressions-mean
