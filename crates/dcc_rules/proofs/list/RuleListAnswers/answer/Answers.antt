use Rattle.dcc_rules.proofs.FactLaws.{answers_for_list}
use Rattle.std.proofs.Common.{◌∷◌, []}
use Rattle.dcc_rules.proofs.list.RuleListAnswers.answer.Goals as goal

pub returns-in-Some : goal.returns-in-Some
returns-in-Some g c = answers_for_list (c.rule-item.result.id ∷ []) _ _ _ c.in_ok-simpler.field-0 c.in-Some.simpler c.in-Some.is c.in_ok-simpler.ensures
