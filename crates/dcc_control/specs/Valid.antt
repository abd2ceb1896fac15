-- Valid plans: those whose text is always where the graph is.
use Rattle.std.specs.Prelude.{◌≡◌, ℕ, suc, ◌<◌, Bool, true, false, not, ◌||◌, ◌&&◌, if◌then◌else◌, List, [], length}
use Rattle.std.specs.Prelude.{slice_get, Some}
use Rattle.dcc_ir.specs.Tree as inner
use Rattle.dcc_ir.specs.Live.{block_in}
use Rattle.dcc_ir.specs.WellFormed.{all_differ}
use Rattle.dcc_control.specs.Plan.{Item, Do, Mark, Jump, If, Switch, Return, For, While, DoWhile, Break, Continue}
use Rattle.dcc_control.specs.Plan.{Plan, no_items, item, Arms, no_arms, arm, marks, is_marked, is_begun, starts_with}
use Rattle.dcc_control.specs.Plan.{Empty, arm_with, starts_empty}

-- a point in a graph: where a block begins, or before its statement at a place; after the last one stands its end
pub data Point : Type 0 where
  Begin : ℕ → Point
  Before : ℕ → ℕ → Point
  -- where no run comes
  Nowhere : Point

-- the end of a block
abbrev pub end_of : inner.Graph → ℕ → Point
end_of graph b = Before b (length (block_in graph b).stmts)

-- a block of these statements and this end does nothing but go to another
abbrev pub only_goes : List inner.Stmt → inner.Exit → Bool
only_goes [] (inner.Goto next) = true
only_goes _ _ = false

-- The step where the block begins is the only one that the text has for it.
abbrev pub only_begins : inner.Graph → (ℕ → Bool) → ℕ → Bool
only_begins graph begun b = begun b && only_goes (block_in graph b).stmts (block_in graph b).exit

-- The run of the graph comes from the first point to the second without a statement, a test or a choice, and without
-- the begin of a block for which the text has a step there alone. No run comes past a Stop, so it may lead anywhere.
pub data Leads (graph : inner.Graph) (begun : ℕ → Bool) : Point → Point → Type 0 where
  is_there : {point : Point} → Leads graph begun point point
  begins : {b : ℕ} {point : Point} → only_begins graph begun b ≡ false → Leads graph begun (Before b 0) point
      → Leads graph begun (Begin b) point
  goes : {b m next : ℕ} {point : Point} → m ≡ length (block_in graph b).stmts
      → (block_in graph b).exit ≡ inner.Goto next → Leads graph begun (Begin next) point
      → Leads graph begun (Before b m) point
  stops : {b m : ℕ} {point : Point} → m ≡ length (block_in graph b).stmts → (block_in graph b).exit ≡ inner.Stop
      → Leads graph begun (Before b m) point

-- where the graph is after an item or a list of items, and where `break` and `continue` in it lead
pub record Context : Type 0 where
  pub next : Point
  pub at_break : Point
  pub at_continue : Point

-- outside of all items
abbrev pub outside : Context
outside = record { next = Nowhere; at_break = Nowhere; at_continue = Nowhere }

-- The point that an item stands for, in the context where the graph is after it. A loop stands after the label of the
-- block that its turns begin, and an empty statement stands for what follows.
abbrev pub item_entry : inner.Graph → Item → Context → Point
item_entry graph (Do b m) c = Before b m
item_entry graph (Mark b) c = Begin b
item_entry graph (Jump b) c = Begin b
item_entry graph (If b one other) c = end_of graph b
item_entry graph (Switch b arms) c = end_of graph b
item_entry graph (Return b) c = end_of graph b
item_entry graph (For b body) c = Before b 0
item_entry graph (While on b body) c = Before b 0
item_entry graph (DoWhile on b head body) c = Before head 0
item_entry graph Break c = c.at_break
item_entry graph Continue c = c.at_continue
item_entry graph Empty c = c.next

-- the point that a list of items stands for
abbrev pub entry : inner.Graph → Plan → Context → Point
entry graph no_items c = c.next
entry graph (item i plan) c = item_entry graph i (record c { next = entry graph plan c })

-- the context of what stands inside an item that these items follow: of the sides of a test, of arms, of a loop
abbrev pub in_sides : inner.Graph → Plan → Context → Context
in_sides graph plan c = record c { next = entry graph plan c }

abbrev pub in_arms : inner.Graph → Plan → Context → Context
in_arms graph plan c =
    let next = entry graph plan c in record { next = next; at_break = next; at_continue = c.at_continue }

abbrev pub in_loop : inner.Graph → ℕ → Plan → Context → Context
in_loop graph b plan c = record { next = Begin b; at_break = entry graph plan c; at_continue = Begin b }

-- inside a loop that tests last, at the end of the block; `continue` would lead to a test, and stands there nowhere
abbrev pub in_do : inner.Graph → ℕ → Plan → Context → Context
in_do graph b plan c = record { next = end_of graph b; at_break = entry graph plan c; at_continue = Nowhere }

-- which way a test goes for a truth value, of its two ways
abbrev pub way : Bool → ℕ → ℕ → ℕ
way on if_true if_false = if on then if_true else if_false

-- From each item of a plan the graph leads to what follows the item, and each jump has its label: `begun` tells for
-- which blocks the text has a step where they begin, `marked` which blocks have a label.
module _ (graph : inner.Graph) (begun marked : ℕ → Bool) where
  abbrev mutual
    pub IsValidBy : Plan → Context → Type 0
    IsValidBy no_items c = Unit {0}
    IsValidBy (item i plan) c = IsValidItemBy i plan c × IsValidBy plan c

    pub IsValidItemBy : Item → Plan → Context → Type 0
    IsValidItemBy (Do b m) plan c =
        (b < length graph.blocks) × (m < length (block_in graph b).stmts)
        × Leads graph begun (Before b (suc m)) (entry graph plan c)
    IsValidItemBy (Mark b) plan c = (b < length graph.blocks) × Leads graph begun (Before b 0) (entry graph plan c)
    IsValidItemBy (Jump b) plan c = (b < length graph.blocks) × (marked b ≡ true)
    IsValidItemBy (If b one other) plan c =
        let inside = in_sides graph plan c in
        (test : inner.Expr) × (if_true : ℕ) × (if_false : ℕ)
        × ((block_in graph b).exit ≡ inner.If test if_true if_false) × (b < length graph.blocks)
        × Leads graph begun (Begin if_true) (entry graph one inside) × IsValidBy one inside
        × Leads graph begun (Begin if_false) (entry graph other inside) × IsValidBy other inside
    IsValidItemBy (Switch b arms) plan c =
        let inside = in_arms graph plan c in
        (e : inner.Expr) × (places : List ℕ) × ((block_in graph b).exit ≡ inner.Switch e places)
        × (b < length graph.blocks)
        × ((n place : ℕ) → slice_get places n ≡ Some place
        → Leads graph begun (Begin place) (entry graph (arm_with n arms) inside))
        × AreValidArmsBy arms inside
    IsValidItemBy (Return b) plan c =
        (values : List inner.Expr) × ((block_in graph b).exit ≡ inner.Ret values) × (b < length graph.blocks)
    IsValidItemBy (For b body) plan c =
        let inside = in_loop graph b plan c in
        (b < length graph.blocks) × Leads graph begun (Before b 0) (entry graph body inside) × IsValidBy body inside
    IsValidItemBy (While on b body) plan c =
        let inside = in_loop graph b plan c in
        (test : inner.Expr) × (if_true : ℕ) × (if_false : ℕ)
        × ((block_in graph b).exit ≡ inner.If test if_true if_false) × (b < length graph.blocks)
        × ((block_in graph b).stmts ≡ [])
        × Leads graph begun (Begin (way on if_true if_false)) (entry graph body inside) × IsValidBy body inside
        × Leads graph begun (Begin (way (not on) if_true if_false)) (entry graph plan c)
    IsValidItemBy (DoWhile on b head body) plan c =
        let inside = in_do graph b plan c in
        (test : inner.Expr) × (if_true : ℕ) × (if_false : ℕ)
        × ((block_in graph b).exit ≡ inner.If test if_true if_false) × (b < length graph.blocks)
        × (head < length graph.blocks) × (starts_with head body ≡ true)
        × Leads graph begun (Before head 0) (entry graph body inside)
        × Leads graph begun (Begin (way on if_true if_false)) (entry graph body inside) × IsValidBy body inside
        × Leads graph begun (Begin (way (not on) if_true if_false)) (entry graph plan c)
    IsValidItemBy Break plan c = Unit {0}
    IsValidItemBy Continue plan c = Unit {0}
    IsValidItemBy Empty plan c = Unit {0}

    pub AreValidArmsBy : Arms → Context → Type 0
    AreValidArmsBy no_arms c = Unit {0}
    AreValidArmsBy (arm cases body arms) c = IsValidBy body c × AreValidArmsBy arms c

  -- From the point the graph leads to the plan, which is valid in the context.
  pub record Follows (point : Point) (plan : Plan) (c : Context) : Type 0 where
    pub valid : IsValidBy plan c
    pub leads : Leads graph begun point (entry graph plan c)

-- A part of a whole plan is valid where the whole plan tells which blocks have a step and a label.
abbrev pub IsValid : inner.Graph → Plan → Plan → Context → Type 0
IsValid graph whole plan c = IsValidBy graph (is_begun whole) (is_marked whole) plan c

abbrev pub IsValidItem : inner.Graph → Plan → Item → Plan → Context → Type 0
IsValidItem graph whole i plan c = IsValidItemBy graph (is_begun whole) (is_marked whole) i plan c

abbrev pub AreValidArms : inner.Graph → Plan → Arms → Context → Type 0
AreValidArms graph whole arms c = AreValidArmsBy graph (is_begun whole) (is_marked whole) arms c

-- The plan is one of the graph: it starts where the graph does, with no empty statement, and no label stands in it twice.
pub record IsPlanOf (graph : inner.Graph) (plan : Plan) : Type 0 where
  pub starts : Leads graph (is_begun plan) (Begin 0) (entry graph plan outside)
  pub valid : IsValid graph plan plan outside
  pub labels : all_differ (marks plan) ≡ true
  pub first : starts_empty plan ≡ false

-- the text has a step for the block: where it begins, or else for a statement, a test or a choice
abbrev pub has_step : inner.Graph → Plan → ℕ → Bool
has_step graph plan b = let block = block_in graph b in is_begun plan b || not (only_goes block.stmts block.exit)

-- the text has a step where each block begins
abbrev pub BeginsAll : inner.Graph → Plan → Type 0
BeginsAll graph plan = (b : ℕ) → b < length graph.blocks → is_begun plan b ≡ true
