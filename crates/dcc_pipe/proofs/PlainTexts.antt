-- The text of a plan is its text, whatever the numbers of its lines.
use Rattle.dcc_ir.specs.Tree as inner
use Rattle.dcc_text.specs.Spelling.{Spelling}
use Rattle.dcc_control.specs.Plan.{Item, Do, Mark, Jump, If, Switch, Return, For, While, DoWhile, Break, Continue, Empty, Plan, no_items, item, Arms, no_arms, arm}
use Rattle.dcc_plan.specs.PlanText.{is_true_first, plan_text, item_text, arms_text, IsPlanText, nothing, one_more, IsItemText, does, marks, jumps, tests, chooses, returns, repeats, tests_first, tests_last, breaks, continues, does_nothing, AreArmsText, no_more, next_arm}
use Rattle.dcc_plan.proofs.Sides.{first-has, second-has}

-- The lines of a plan's text are its text.
mutual
  pub plain-text : (s : Spelling) (graph : inner.Graph) (p : Plan) → IsPlanText s graph p (plan_text s graph p)
  plain-text s graph no_items = nothing
  plain-text s graph (item i p) = one_more (plain-item s graph i) (plain-text s graph p)

  plain-item : (s : Spelling) (graph : inner.Graph) (i : Item) → IsItemText s graph i (item_text s graph i)
  plain-item s graph (Do b m) = does
  plain-item s graph (Mark b) = marks
  plain-item s graph (Jump b) = jumps
  plain-item s graph (If b one other) =
      let on = is_true_first graph one other in
      let body = plan_text s graph one in
      let otherwise = plan_text s graph other in
      tests (first-has (IsPlanText s graph) on one other body otherwise (plain-text s graph one) (plain-text s graph other))
      (second-has (IsPlanText s graph) on one other body otherwise (plain-text s graph one) (plain-text s graph other))
  plain-item s graph (Switch b arms) = chooses (plain-arms s graph arms)
  plain-item s graph (Return b) = returns
  plain-item s graph (For b body) = repeats (plain-text s graph body)
  plain-item s graph (While on b body) = tests_first (plain-text s graph body)
  plain-item s graph (DoWhile on b head body) = tests_last (plain-text s graph body)
  plain-item s graph Break = breaks
  plain-item s graph Continue = continues
  plain-item s graph Empty = does_nothing

  plain-arms : (s : Spelling) (graph : inner.Graph) (arms : Arms) → AreArmsText s graph arms (arms_text s graph arms)
  plain-arms s graph no_arms = no_more
  plain-arms s graph (arm cases body arms) = next_arm (plain-text s graph body) (plain-arms s graph arms)
