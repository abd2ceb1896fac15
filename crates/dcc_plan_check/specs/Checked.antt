-- What the test of a plan tells of its parts.
use Rattle.std.specs.Prelude.{◌≡◌, ℕ, ◌<◌, ◌≤◌, ◌-◌, Bool, true, false, not, ◌||◌, List, ◌++◌, get_or}
use Rattle.dcc_ir.specs.Tree as inner
use Rattle.dcc_ir.specs.Live.{block_in, follows}
use Rattle.dcc_ir.specs.WellFormed.{all_differ}
use Rattle.dcc_control.specs.Plan.{Item, Plan, no_items, Arms, marks, is_marked, is_begun, nests, item_nests, arms_nest}
use Rattle.dcc_control.specs.Valid.{Point, Begin, Before, Nowhere, Context, IsValidBy, IsValidItemBy, AreValidArmsBy}
use Rattle.dcc_control.specs.Valid.{only_goes}
use Rattle.dcc_plan_check.specs.declared.point.Point.{Point as PointOf}
use Rattle.dcc_plan_check.specs.declared.point.Point.TheVariants.{Begin as BeginOf, Before as BeforeOf, Nowhere as NowhereOf}
use Rattle.dcc_plan_check.specs.declared.valid.Around.{Around}
use Rattle.dcc_plan_check.specs.declared.labels.Labels.{Labels}
use Rattle.dcc_plan_check.specs.declared.labels.Noted.{Noted}

-- the point that a declared one stands for
abbrev pub point_of : PointOf → Point
point_of (BeginOf b) = Begin b
point_of (BeforeOf b m) = Before b m
point_of NowhereOf = Nowhere

-- where the graph is behind a part of a plan, and where `break` and `continue` in it lead
abbrev pub context_of : Around → Context
context_of a = record { next = point_of a.next; at_break = point_of a.at_break; at_continue = point_of a.at_continue }

-- what stands around the sides of a test, the arms of a choice, and the body of the loop that a block begins
abbrev pub in_sides : Around → Around
in_sides a = record a { room = a.room - 1 }

abbrev pub in_arms : Around → Around
in_arms a = record a { at_break = a.next; room = a.room - 1 }

abbrev pub in_loop : ℕ → Around → Around
in_loop b a = record { next = BeginOf b; at_break = a.next; at_continue = BeginOf b; room = a.room - 1 }

-- the text has a step where the block begins, as the list tells it of each block
abbrev pub is_begun_in : List Bool → ℕ → Bool
is_begun_in begun b = get_or begun b true

-- the block has a label, as the list tells it of each block
abbrev pub is_marked_in : List Bool → ℕ → Bool
is_marked_in marked b = get_or marked b false

-- The text has a step for the block: the label that the list tells of, or a statement, a test or a choice.
abbrev pub has_step_in : inner.Graph → List Bool → ℕ → Bool
has_step_in graph marked b =
    is_marked_in marked b || not (only_goes (block_in graph b).stmts (block_in graph b).exit)

-- From a block without a step each edge leads to a block with one, or with a greater one of these numbers.
abbrev pub RisesFrom : inner.Graph → List Bool → List ℕ → ℕ → Type 0
RisesFrom graph marked numbers a =
    (b : ℕ) → follows graph a b ≡ true → has_step_in graph marked a ≡ false → has_step_in graph marked b ≡ false
    → get_or numbers a 0 < get_or numbers b 0

-- these labels and these blocks that turns of loops begin were noted
abbrev pub Notes : Noted → List ℕ → List ℕ → Noted → Type 0
Notes before labels heads after =
    (after.labels.items ≡ before.labels.items ++ labels) × (after.heads.items ≡ before.heads.items ++ heads)

-- No label stands in the plan twice; each block that is marked has a label, and each one with a step where it begins is
-- begun.
pub record AreLabels (plan : Plan) (labels : Labels) : Type 0 where
  pub once : all_differ (marks plan) ≡ true
  pub marked : (b : ℕ) → is_marked_in labels.marked.items b ≡ true → is_marked plan b ≡ true
  pub begun : (b : ℕ) → is_begun plan b ≡ true → is_begun_in labels.begun.items b ≡ true

-- A part of a plan fits what stands around it: it is valid there, and nests no deeper than there is room.
module _ (graph : inner.Graph) (labels : Labels) where
  pub record FitsItem (i : Item) (a : Around) : Type 0 where
    pub valid : IsValidItemBy graph (is_begun_in labels.begun.items) (is_marked_in labels.marked.items) i no_items
        (context_of a)
    pub nesting : item_nests i ≤ a.room

  pub record Fits (plan : Plan) (a : Around) : Type 0 where
    pub valid : IsValidBy graph (is_begun_in labels.begun.items) (is_marked_in labels.marked.items) plan (context_of a)
    pub nesting : nests plan ≤ a.room

  pub record FitArms (arms : Arms) (a : Around) : Type 0 where
    pub valid : AreValidArmsBy graph (is_begun_in labels.begun.items) (is_marked_in labels.marked.items) arms
        (context_of a)
    pub nesting : arms_nest arms ≤ a.room
