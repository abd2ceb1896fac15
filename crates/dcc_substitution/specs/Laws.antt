-- The laws of available assignments, of substitution and of fresh temporaries.
use Rattle.std.specs.Prelude.{◌≡◌, ℕ, false, List, slice_get, Some}
use Rattle.dcc_run.specs.End.{is_over}
use Rattle.dcc_ir.specs.Tree.{Graph, Program}
use Rattle.dcc_ir.specs.WellFormed.{IsGraph, IsProgram}
use Rattle.dcc_ir.specs.Fitting.{AreBytes}
use Rattle.dcc_ir.specs.Run.{State, scene_of, reached}
use Rattle.dcc_passes.specs.Replaced.{StandsFor}
use Rattle.dcc_substitution.specs.Available.{Availability, IsRight, Holds}
use Rattle.dcc_substitution.specs.Substituted.{IsSubstituted}
use Rattle.dcc_substitution.specs.Fresh.{IsWithFresh}

-- The state runs a block of the graph, and there what is available holds.
pub record HoldsWhere (available : Availability) (graph : Graph) (s : State) : Type 0 where
  pub place : ℕ
  pub placed : slice_get graph.blocks place ≡ Some s.running.block
  pub holds : Holds (available place s.running.rest) (scene_of s)

-- wherever the run of a well-formed program comes to in a graph, what is available there by a right table holds
abbrev pub AvailableHolds : Availability → Type 0
AvailableHolds available = (p : Program) (graph : Graph) → IsProgram p → IsRight graph available
    → (fill : ℕ) (input : List ℕ) (n : ℕ) → AreBytes input → is_over (reached p fill input n).end ≡ false
    → (reached p fill input n).running.graph ≡ graph → HoldsWhere available graph (reached p fill input n)

-- a well-formed graph that is another one with the expressions of available assignments in the place of reads, by a
-- right table, stands for it
abbrev pub SubstitutedStands : Availability → Type 0
SubstitutedStands available = (before after : Graph) → IsRight before available → IsSubstituted available before after
    → IsGraph after → StandsFor before after

-- a well-formed graph that is another one with further temporaries and Sets of these stands for it
abbrev pub FreshMayCome : Type 0
FreshMayCome = (before after : Graph) → IsGraph before → IsWithFresh before after → IsGraph after
    → StandsFor before after
