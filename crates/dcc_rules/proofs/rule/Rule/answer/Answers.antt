use Rattle.dcc_rules.proofs.FactLaws.{call_answers}
use Rattle.dcc_rules.proofs.rule.Rule.answer.Goals as goal

pub returns : goal.returns
returns g c = call_answers _ _ _ _ (c.args.self.now.meets c.args.alloc c.args.bits c.args.e c.apply.result c.apply.ensures.0)
