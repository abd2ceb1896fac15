-- Whether a graph loses a location, where the procedures that change it are told of.
use Rattle.std.specs.Prelude.{◌≡◌, ℕ, Bool, true, List}
use Rattle.dcc_ir.specs.declared.syntax.Loc.{Loc}
use Rattle.dcc_ir.specs.Tree.{Graph}
use Rattle.dcc_demand.specs.Procedures.{ChangeFamily}
use Rattle.dcc_demand.specs.Trail.{IsTrail}
use Rattle.dcc_demand.specs.Changes.{Loses}
use Rattle.dcc_sums.specs.Points.{Position}
use Rattle.dcc_sums.specs.Instance.{procedure_of}

-- the procedures that are told of change all locations
abbrev pub told : (ℕ → Bool) → ChangeFamily Loc
told changed i location = changed i ≡ true

-- some trail to a return of the graph loses the location
pub record GraphLoses (changed : ℕ → Bool) (graph : Graph) (location : Loc) : Type 0 where
  pub passed : List Position
  pub at : Position
  pub trail : IsTrail (procedure_of graph) passed at
  pub returns : (procedure_of graph).returns at ≡ true
  pub loses : Loses (told changed) (procedure_of graph) location passed
