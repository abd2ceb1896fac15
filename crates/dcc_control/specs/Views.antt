-- The plans that the declared types stand for.
use Rattle.std.specs.Prelude.{List, [], ◌∷◌}
use Rattle.dcc_control.specs.declared.item.Item.{Item as TheItem, Do as DoOf, Mark as MarkOf, Jump as JumpOf, If'}
use Rattle.dcc_control.specs.declared.item.Item.{Switch', Return as ReturnOf, For', While', DoWhile', Break as BreakOf}
use Rattle.dcc_control.specs.declared.item.Item.{Continue as ContinueOf, Empty as EmptyOf}
use Rattle.dcc_control.specs.declared.item.Item.{Row_of-Item, end_of-Item, more_of-Item}
use Rattle.dcc_control.specs.declared.item.Item.{Row_of-Arm, end_of-Arm, more_of-Arm}
use Rattle.dcc_control.specs.declared.item.Arm.{Arm as TheArm}
use Rattle.dcc_control.specs.declared.told.Leaving.{Leaving as TheLeaving}
use Rattle.dcc_control.specs.Plan.{Item, Do, Mark, Jump, If, Switch, Return, For, While, DoWhile, Break, Continue}
use Rattle.dcc_control.specs.Plan.{Empty, Plan, no_items, item, Arms, no_arms, arm}
use Rattle.dcc_control.specs.Told.{Leaving}

abbrev mutual
  -- the plan's item
  pub item_of : TheItem → Item
  item_of (DoOf b m) = Do b m
  item_of (MarkOf b) = Mark b
  item_of (JumpOf b) = Jump b
  item_of (If' b _ one _ other) = If b (plan_of_row one) (plan_of_row other)
  item_of (Switch' b _ arms) = Switch b (arms_of_row arms)
  item_of (ReturnOf b) = Return b
  item_of (For' b _ body) = For b (plan_of_row body)
  item_of (While' on b _ body) = While on b (plan_of_row body)
  item_of (DoWhile' on b head _ body) = DoWhile on b head (plan_of_row body)
  item_of BreakOf = Break
  item_of ContinueOf = Continue
  item_of EmptyOf = Empty

  -- the plan inside an item
  pub plan_of_row : {n : _} → Row_of-Item n → Plan
  plan_of_row end_of-Item = no_items
  plan_of_row (more_of-Item i rest) = item (item_of i) (plan_of_row rest)

  -- the arms inside an item
  pub arms_of_row : {n : _} → Row_of-Arm n → Arms
  arms_of_row end_of-Arm = no_arms
  arms_of_row (more_of-Arm cases _ body rest) = arm cases.items (plan_of_row body) (arms_of_row rest)

-- the plan of a list of items, before what follows them
abbrev pub plan_before : List TheItem → Plan → Plan
plan_before [] plan = plan
plan_before (i ∷ items) plan = item (item_of i) (plan_before items plan)

-- the plan of a list of items
abbrev pub plan_of : List TheItem → Plan
plan_of items = plan_before items no_items

-- the arms of a list of arms
abbrev pub arms_of : List TheArm → Arms
arms_of [] = no_arms
arms_of (a ∷ arms) = arm a.cases.items (plan_of a.body.items) (arms_of arms)

-- the test that leaves a loop
abbrev pub leaving_in : TheLeaving → Leaving
leaving_in test = record { on = test.on; block = test.block; goes_on = plan_of test.goes_on.now }
