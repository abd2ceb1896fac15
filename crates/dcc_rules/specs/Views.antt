-- Stored rules and their numbers.
use Rattle.std.specs.Prelude.{ℕ, List, map}
use Rattle.dcc_rules.specs.declared.rule.Rule.{Rule}
use Rattle.dcc_rules.specs.declared.list.RuleList.{RuleList}

-- the rules of a list, in their order
abbrev pub rules_of : {F : _} {calls : _} → RuleList F calls → List (Rule F calls)
rules_of list = list.rules.items

-- their numbers
abbrev pub numbers_of : {F : _} {calls : _} → RuleList F calls → List ℕ
numbers_of list = map (λ rule. rule.id) list.rules.items
