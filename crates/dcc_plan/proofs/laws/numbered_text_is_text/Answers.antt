use Rattle.dcc_plan.proofs.TextLaws.{numbered-text}
use Rattle.dcc_plan.proofs.laws.numbered_text_is_text.Goals as goal

pub returns : goal.returns
returns g = numbered-text
