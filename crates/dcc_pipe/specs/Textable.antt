-- What a program has for its text.
use Rattle.std.specs.Prelude.{◌≡◌, ◌*◌, ℕ, true, All}
use Rattle.dcc_ir.specs.Tree.{Graph, Program}
use Rattle.dcc_ir.specs.WellFormed.{IsProgram}
use Rattle.dcc_ir.specs.Ends.{IsNeverStuck}
use Rattle.dcc_lift.specs.Lifted.{IsShallow}
use Rattle.dcc_plan.specs.Calls.{all_places, locations_differ}

-- as many levels have the expressions of what is lifted
abbrev pub lifted_levels : ℕ
lifted_levels = 7

-- As many have those of what is prepared: without flags what is lifted has twice as many. Their text may have 32, since
-- each takes at most 6 of the text's, and the division of bytes three more, of which the reader takes 200.
abbrev pub levels : ℕ
levels = 2 * lifted_levels

-- no location takes two arguments
abbrev pub TakesApart : Graph → Type 0
TakesApart graph = locations_differ (all_places graph.params) ≡ true

-- The program is well formed, the expressions of its graphs have at most so many levels, and no run is stuck.
pub record IsTextable (depth : ℕ) (p : Program) : Type 0 where
  pub formed : IsProgram p
  pub shallow : All (IsShallow depth) p.graphs
  pub never_stuck : IsNeverStuck p
