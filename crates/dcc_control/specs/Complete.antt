-- The plan with an empty statement after each label that stands last among its items, and with an arm in each choice
-- that has none, as a text must have.
use Rattle.std.specs.Prelude.{◌≡◌, ℕ, Bool, true, [], ◌∷◌}
use Rattle.dcc_ir.specs.Tree as inner
use Rattle.dcc_control.specs.Plan.{Item, If, Switch, For, While, DoWhile, Empty, Plan, no_items, item}
use Rattle.dcc_control.specs.Plan.{Arms, no_arms, arm, is_mark}
use Rattle.dcc_control.specs.Valid.{IsPlanOf, BeginsAll, has_step}

-- what follows an item: where that is a label and no item follows, an empty statement
abbrev pub followed : Bool → Plan → Plan
followed true no_items = item Empty no_items
followed _ plan = plan

-- the arms of a choice, or an empty one where there is none
abbrev pub some_arms : Arms → Arms
some_arms no_arms = arm (0 ∷ []) no_items no_arms
some_arms arms = arms

abbrev mutual
  pub completed : Plan → Plan
  completed no_items = no_items
  completed (item i plan) = item (completed_item i) (followed (is_mark i) (completed plan))

  pub completed_item : Item → Item
  completed_item (If b one other) = If b (completed one) (completed other)
  completed_item (Switch b arms) = Switch b (some_arms (completed_arms arms))
  completed_item (For b body) = For b (completed body)
  completed_item (While on b body) = While on b (completed body)
  completed_item (DoWhile on b head body) = DoWhile on b head (completed body)
  completed_item i = i

  pub completed_arms : Arms → Arms
  completed_arms no_arms = no_arms
  completed_arms (arm cases body arms) = arm cases (completed body) (completed_arms arms)

-- a completed plan is a plan of the same graphs, and its text has a step where the plan's text has one
abbrev pub CompletePlansAreValid : Type 0
CompletePlansAreValid = (graph : inner.Graph) (plan : Plan) → IsPlanOf graph plan
    → IsPlanOf graph (completed plan) × (BeginsAll graph plan → BeginsAll graph (completed plan))

-- the text of a completed plan has a step for the blocks that the plan's text has one for
abbrev pub CompletePlansKeepSteps : Type 0
CompletePlansKeepSteps = (graph : inner.Graph) (plan : Plan) (b : ℕ)
    → has_step graph (completed plan) b ≡ has_step graph plan b
