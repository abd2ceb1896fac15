-- The law of settled copies.
use Rattle.std.specs.Prelude.{}
use Rattle.dcc_ir.specs.declared.syntax.Loc.{Loc}
use Rattle.dcc_ir.specs.Tree.{Graph}
use Rattle.dcc_ir.specs.WellFormed.{IsGraph}
use Rattle.dcc_passes.specs.Tidied.{IsTidied}
use Rattle.dcc_copies.specs.Settled.{settled, IsRight}

-- a well-formed graph may give its place to the one with right names for its locations, in which the copies of locations
-- to their own names are gone
abbrev pub SettledStands : Type 0
SettledStands = (graph : Graph) (name : Loc → Loc) → IsGraph graph → IsRight name graph
    → IsTidied graph (settled name graph)
