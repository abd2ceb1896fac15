-- Structured plans.
use Rattle.std.specs.Prelude.{◌≡◌, ℕ, ◌≤◌, ◌⊎◌, true, List, ◌∷◌}
use Rattle.std.specs.List.{list_any}
use Rattle.dcc_ir.specs.Tree.{Graph}
use Rattle.dcc_ir.specs.Flow.{IsPath, Any}
use Rattle.dcc_ir.specs.Live.{follows}
use Rattle.dcc_control.specs.Plan.{Plan, nests}
use Rattle.dcc_control.specs.Valid.{IsPlanOf, has_step}

-- the plan is one of the graph, and nests no deeper than a text may
pub record IsStructured (graph : Graph) (plan : Plan) : Type 0 where
  pub valid : IsPlanOf graph plan
  pub nesting : nests plan ≤ 200

-- the block is the first one, or a path leads there from the first one
abbrev pub IsReached : Graph → ℕ → Type 0
IsReached graph b = (b ≡ 0) ⊎ ((between : List ℕ) × IsPath (follows graph) Any 0 between b)

-- each closed path of reached blocks holds one for which the text of the plan has a step
abbrev pub BeginsReturns : Graph → Plan → Type 0
BeginsReturns graph plan =
    (b : ℕ) (between : List ℕ) → IsReached graph b → IsPath (follows graph) Any b between b
    → list_any (has_step graph plan) (b ∷ between) ≡ true
