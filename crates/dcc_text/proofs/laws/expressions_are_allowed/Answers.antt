use Rattle.dcc_text.proofs.TypedTexts.{expressions-allowed}
use Rattle.dcc_text.proofs.laws.expressions_are_allowed.Goals as goal

pub returns : goal.returns
returns c = expressions-allowed
