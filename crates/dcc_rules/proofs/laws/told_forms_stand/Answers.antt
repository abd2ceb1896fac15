use Rattle.dcc_rules.proofs.ToldLaws.{told_forms}
use Rattle.dcc_rules.proofs.laws.told_forms_stand.Goals as goal

pub returns : goal.returns
returns c = told_forms
