-- Laws of plans.
use Rattle.std.specs.Prelude.{◌≡◌, ℕ, Bool, true}
use Rattle.dcc_ir.specs.Tree as inner
use Rattle.dcc_ir.specs.WellFormed.{IsGraph}
use Rattle.dcc_control.specs.Plan.{Plan, nests}
use Rattle.dcc_control.specs.Valid.{Point, Context, Follows, IsPlanOf, BeginsAll}
use Rattle.dcc_control.specs.Complete.{completed}
use Rattle.dcc_control.specs.GotoPlan.{goto_plan}

-- the plan of a text with jumps is one of its graph, and has a step where each block begins
abbrev pub GotoPlanIsValid : Type 0
GotoPlanIsValid = (graph : inner.Graph) → IsGraph graph
    → IsPlanOf graph (goto_plan graph) × BeginsAll graph (goto_plan graph)

-- what the first test tells the second one tells too
abbrev pub LiesIn : (ℕ → Bool) → (ℕ → Bool) → Type 0
LiesIn few many = (b : ℕ) → few b ≡ true → many b ≡ true

-- A plan that follows a point does so too where fewer blocks have a step and more have a label.
abbrev pub WeakerBegun : Type 0
WeakerBegun = (graph : inner.Graph) (begun fewer marked more : ℕ → Bool) → LiesIn fewer begun
    → LiesIn marked more → (point : Point) (plan : Plan) (c : Context) → Follows graph begun marked point plan c
    → Follows graph fewer more point plan c

-- a completed plan nests as deep
abbrev pub CompletePlansNestAlike : Type 0
CompletePlansNestAlike = (plan : Plan) → nests (completed plan) ≡ nests plan
