use Rattle.std.proofs.Common.{◌≡◌, true, take, map}
use Rattle.dcc_ir.specs.Views.{expr_of}
use Rattle.dcc_rules.specs.Forms.{has_no_form}
use Rattle.dcc_rules.proofs.list.RuleListAnswers.answer.Given as goal

abbrev pub invariant-loop-rule : goal.invariant-loop-rule
invariant-loop-rule g l = has_no_form (map (λ rule. rule.id) (take l.rule-index l.rule-items)) l.bits (expr_of l.e) ≡ true
