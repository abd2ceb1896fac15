use Rattle.dcc_widthrules.proofs.HalfLaws.{meets_66}
use Rattle.dcc_widthrules.proofs.halves.rule_66.Goals as goal

pub returns : goal.returns
returns c = meets_66 _ _ _ c.changed_word.ensures
