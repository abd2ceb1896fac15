-- The control of a text: where the statements and the ends of a graph's blocks stand in it, and where it jumps. Blocks
-- are named by their places in the graph, statements by their places in the block.
use Rattle.std.specs.Prelude.{ℕ, suc, max, ◌==◌, Bool, true, false, ◌||◌, if◌then◌else◌, List, [], ◌∷◌, ◌++◌}
use Rattle.std.specs.List.{list_any}

mutual
  pub data Item : Type 0 where
    -- the statement of a block at that place
    Do : ℕ → ℕ → Item
    -- the label of a block, and a jump to it
    Mark : ℕ → Item
    Jump : ℕ → Item
    -- the test at the end of a block, with what stands on either side
    If : ℕ → Plan → Plan → Item
    -- the choice at the end of a block
    Switch : ℕ → Arms → Item
    -- the return at the end of a block
    Return : ℕ → Item
    -- a loop without a test, each turn of which begins a block
    For : ℕ → Plan → Item
    -- a loop that tests first, at the end of the block: it goes on where the test comes to that truth value
    While : Bool → ℕ → Plan → Item
    -- a loop that tests last, at the end of the first block; each turn begins the second one
    DoWhile : Bool → ℕ → ℕ → Plan → Item
    Break : Item
    Continue : Item
    -- an empty statement
    Empty : Item

  -- items in the order of the text
  pub data Plan : Type 0 where
    no_items : Plan
    item : Item → Plan → Plan

  -- the arms of a choice in their order, each with its cases
  pub data Arms : Type 0 where
    no_arms : Arms
    arm : List ℕ → Plan → Arms → Arms

abbrev mutual
  -- the blocks whose labels stand in the plan, in the order of the text
  pub marks : Plan → List ℕ
  marks no_items = []
  marks (item i plan) = item_marks i ++ marks plan

  pub item_marks : Item → List ℕ
  item_marks (Mark b) = b ∷ []
  item_marks (If b one other) = marks one ++ marks other
  item_marks (Switch b arms) = arm_marks arms
  item_marks (For b body) = marks body
  item_marks (While on b body) = marks body
  item_marks (DoWhile on b head body) = marks body
  item_marks _ = []

  pub arm_marks : Arms → List ℕ
  arm_marks no_arms = []
  arm_marks (arm cases body arms) = marks body ++ arm_marks arms

abbrev mutual
  -- the blocks that turns of loops without a test begin
  pub turns : Plan → List ℕ
  turns no_items = []
  turns (item i plan) = item_turns i ++ turns plan

  pub item_turns : Item → List ℕ
  item_turns (If b one other) = turns one ++ turns other
  item_turns (Switch b arms) = arm_turns arms
  item_turns (For b body) = b ∷ turns body
  item_turns (While on b body) = turns body
  item_turns (DoWhile on b head body) = turns body
  item_turns _ = []

  pub arm_turns : Arms → List ℕ
  arm_turns no_arms = []
  arm_turns (arm cases body arms) = turns body ++ arm_turns arms

-- the number stands in the list
abbrev pub is_in : ℕ → List ℕ → Bool
is_in b bs = list_any (λ a. a == b) bs

-- the block's label stands in the plan
abbrev pub is_marked : Plan → ℕ → Bool
is_marked plan b = is_in b (marks plan)

-- the text has a step where the block begins: its label, or a turn of a loop without a test
abbrev pub is_begun : Plan → ℕ → Bool
is_begun plan b = is_marked plan b || is_in b (turns plan)

-- the item is a statement, a test or a choice of the block
abbrev pub is_of : ℕ → Item → Bool
is_of b (Do a m) = a == b
is_of b (If a one other) = a == b
is_of b (Switch a arms) = a == b
is_of b _ = false

-- the first of these items is a statement, a test or a choice of the block
abbrev pub starts_with : ℕ → Plan → Bool
starts_with b no_items = false
starts_with b (item i plan) = is_of b i

-- the item is a label
abbrev pub is_mark : Item → Bool
is_mark (Mark b) = true
is_mark _ = false

-- the item is an empty statement
abbrev pub is_empty_statement : Item → Bool
is_empty_statement Empty = true
is_empty_statement _ = false

-- the first of these items is an empty statement
abbrev pub starts_empty : Plan → Bool
starts_empty no_items = false
starts_empty (item i plan) = is_empty_statement i

-- the items of one plan, and then those of another
abbrev pub joined : Plan → Plan → Plan
joined no_items after = after
joined (item i plan) after = item i (joined plan after)

-- what the arm with this case holds; nothing where there is none
abbrev pub arm_with : ℕ → Arms → Plan
arm_with n no_arms = no_items
arm_with n (arm cases body arms) = if is_in n cases then body else arm_with n arms

-- all cases of the arms
abbrev pub all_cases : Arms → List ℕ
all_cases no_arms = []
all_cases (arm cases body arms) = cases ++ all_cases arms

abbrev mutual
  -- how many items stand around the innermost place of a plan
  pub nests : Plan → ℕ
  nests no_items = 0
  nests (item i plan) = max (item_nests i) (nests plan)

  pub item_nests : Item → ℕ
  item_nests (If b one other) = suc (max (nests one) (nests other))
  item_nests (Switch b arms) = suc (arms_nest arms)
  item_nests (For b body) = suc (nests body)
  item_nests (While on b body) = suc (nests body)
  item_nests (DoWhile on b head body) = suc (nests body)
  item_nests _ = 0

  pub arms_nest : Arms → ℕ
  arms_nest no_arms = 0
  arms_nest (arm cases body arms) = max (nests body) (arms_nest arms)
