-- Loops told by their tests: a loop whose first item is a test that may leave it tests first, and one whose last item
-- is such a test tests last.
use Rattle.std.specs.Prelude.{◌≡◌, ℕ, ◌==◌, Bool, true, false, ◌||◌, ◌&&◌, not, if◌then◌else◌, Option, Some, None}
use Rattle.dcc_ir.specs.Tree as inner
use Rattle.dcc_control.specs.Plan.{Item, If, Switch, For, While, DoWhile, Break, Continue, Plan, no_items, item}
use Rattle.dcc_control.specs.Plan.{Arms, no_arms, arm, is_of, joined}
use Rattle.dcc_control.specs.Valid.{IsPlanOf, has_step}

-- nothing
abbrev pub is_empty : Plan → Bool
is_empty no_items = true
is_empty _ = false

-- `break` alone
abbrev pub only_breaks : Plan → Bool
only_breaks (item Break no_items) = true
only_breaks _ = false

-- The test at the end of a block leaves the loop for one truth value; for the other it goes on with these items.
pub record Leaving : Type 0 where
  pub on : Bool
  pub block : ℕ
  pub goes_on : Plan

-- the item as such a test
abbrev pub leaving_of : Item → Option Leaving
leaving_of (If b one other) =
    if only_breaks other then Some (record { on = true; block = b; goes_on = one })
    else if only_breaks one then Some (record { on = false; block = b; goes_on = other }) else None
leaving_of _ = None

abbrev mutual
  -- a `continue` of the loop around these items stands among them
  pub continues : Plan → Bool
  continues no_items = false
  continues (item i plan) = item_continues i || continues plan

  pub item_continues : Item → Bool
  item_continues Continue = true
  item_continues (If b one other) = continues one || continues other
  item_continues (Switch b arms) = arms_continue arms
  item_continues _ = false

  pub arms_continue : Arms → Bool
  arms_continue no_arms = false
  arms_continue (arm cases body arms) = continues body || arms_continue arms

-- the last of these items, of which the first is that one, and those before the last
abbrev pub last : Item → Plan → Item
last i no_items = i
last i (item next plan) = last next plan

abbrev pub front : Item → Plan → Plan
front i no_items = no_items
front i (item next plan) = item i (front next plan)

-- the loop of a block whose first item is that one and whose others follow it, where it tests first
abbrev pub tests_first : ℕ → Item → Plan → Option Item
tests_first b i plan = elim (leaving_of i) [
  | Some test ↦ if test.block == b then Some (While test.on b (joined test.goes_on plan)) else None
  | None ↦ None
]

-- the loop of a block whose last item is that one and whose others come before it, where it tests last
abbrev pub tests_last : ℕ → Plan → Item → Option Item
tests_last b plan i = elim (leaving_of i) [
  | Some test ↦
      if is_empty test.goes_on && not (continues plan) then Some (DoWhile test.on test.block b plan) else None
  | None ↦ None
]

-- the loop of a block whose first item is that one and whose others follow it, told by its last item
abbrev pub told_last : ℕ → Item → Plan → Item
told_last b i plan = elim (tests_last b (front i plan) (last i plan)) [ Some loop ↦ loop | None ↦ For b (item i plan) ]

-- The loop of a block, told by its test. Where it tests last, its first item is one of the block.
abbrev pub told_loop : ℕ → Plan → Item
told_loop b no_items = For b no_items
told_loop b (item i plan) = elim (tests_first b i plan) [
  | Some loop ↦ loop
  | None ↦ if is_of b i then told_last b i plan else For b (item i plan)
]

abbrev mutual
  -- the plan with each of its loops told by its test, those inside others first
  pub told_loops : Plan → Plan
  told_loops no_items = no_items
  told_loops (item i plan) = item (told_item i) (told_loops plan)

  pub told_item : Item → Item
  told_item (If b one other) = If b (told_loops one) (told_loops other)
  told_item (Switch b arms) = Switch b (told_arms arms)
  told_item (For b body) = told_loop b (told_loops body)
  told_item (While on b body) = While on b (told_loops body)
  told_item (DoWhile on b head body) = DoWhile on b head (told_loops body)
  told_item i = i

  pub told_arms : Arms → Arms
  told_arms no_arms = no_arms
  told_arms (arm cases body arms) = arm cases (told_loops body) (told_arms arms)

-- a plan whose loops are told by their tests is a plan of the same graph
abbrev pub ToldLoopsAreValid : Type 0
ToldLoopsAreValid = (graph : inner.Graph) (plan : Plan) → IsPlanOf graph plan → IsPlanOf graph (told_loops plan)

-- the text of a plan whose loops are told by their tests has a step for the blocks that the plan's text has one for
abbrev pub ToldLoopsKeepSteps : Type 0
ToldLoopsKeepSteps = (graph : inner.Graph) (plan : Plan) → IsPlanOf graph plan → (b : ℕ)
    → has_step graph (told_loops plan) b ≡ has_step graph plan b
