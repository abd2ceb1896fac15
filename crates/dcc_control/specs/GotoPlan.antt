-- The plan of a text with jumps: each block after its label, and its end by jumps or a return.
use Rattle.std.specs.Prelude.{ℕ, suc, ◌==◌, not, if◌then◌else◌, List, [], ◌∷◌, filter}
use Rattle.dcc_ir.specs.Tree as inner
use Rattle.dcc_control.specs.Plan.{Do, Mark, Jump, If, Switch, Return, Plan, no_items, item, Arms, no_arms, arm}

-- a jump to a block
abbrev pub jump : ℕ → Plan
jump b = item (Jump b) no_items

-- the statements of a block from that place on, with what follows
abbrev pub do_all : ℕ → ℕ → List inner.Stmt → Plan → Plan
do_all b m [] plan = plan
do_all b m (stmt ∷ stmts) plan = item (Do b m) (do_all b (suc m) stmts plan)

-- the numbers in the order in which they first stand in a list
abbrev pub distinct : List ℕ → List ℕ
distinct [] = []
distinct (n ∷ ns) = n ∷ filter (λ m. not (m == n)) (distinct ns)

-- where a number stands in a list, whose first place is that one, in ascending order
abbrev pub places_from : ℕ → ℕ → List ℕ → List ℕ
places_from place n [] = []
places_from place n (m ∷ ms) =
    if m == n then place ∷ places_from (suc place) n ms else places_from (suc place) n ms

-- an arm for each of these targets, with its cases, the places where it stands in the list
abbrev pub target_arms : List ℕ → List ℕ → Arms
target_arms places [] = no_arms
target_arms places (target ∷ targets) = arm (places_from 0 target places) (jump target) (target_arms places targets)

-- the end of a block, with what follows; no run comes past a Stop
abbrev pub goto_exit : ℕ → inner.Exit → Plan → Plan
goto_exit b (inner.Goto next) plan = item (Jump next) plan
goto_exit b (inner.If test one other) plan = item (If b (jump one) (jump other)) plan
goto_exit b (inner.Switch e places) plan = item (Switch b (target_arms places (distinct places))) plan
goto_exit b (inner.Ret values) plan = item (Return b) plan
goto_exit b inner.Stop plan = plan

-- these blocks, the first of which is that one
abbrev pub goto_blocks : ℕ → List inner.Block → Plan
goto_blocks b [] = no_items
goto_blocks b (block ∷ blocks) =
    item (Mark b) (do_all b 0 block.stmts (goto_exit b block.exit (goto_blocks (suc b) blocks)))

abbrev pub goto_plan : inner.Graph → Plan
goto_plan graph = goto_blocks 0 graph.blocks
