-- Laws of programs in which all halves and flags pass, and of those in which just what is wanted passes.
use Rattle.std.specs.Prelude.{◌≡◌, ℕ, List, Some}
use Rattle.dcc_ir.specs.Tree.{Graph, Program, Summary}
use Rattle.dcc_ir.specs.WellFormed.{IsProgram}
use Rattle.dcc_ir.specs.Passing.{PassesAll}
use Rattle.dcc_ir.specs.Keeps.{KeepsInOne, KeepsFrame}
use Rattle.dcc_ir.specs.Run.{graph_at}
use Rattle.dcc_ir.specs.Trimmed.{Trim, trimmed}
use Rattle.dcc_sums.specs.Summaries.{AreSummaries, ReusesNone}
use Rattle.dcc_sums.specs.Localised.{summary_at, localised, PassesJust}

-- a well-formed program is well formed still where arguments and values given back have gone
abbrev pub TrimmedIsFormed : Type 0
TrimmedIsFormed = (trim : Trim) (p : Program) → IsProgram p → IsProgram (trimmed trim p)

-- What is left of a program by a pass between its procedures: it is well formed, its blocks, edges, calls and runs are
-- kept, and each graph keeps its frame.
pub record IsKeptBy (p q : Program) : Type 0 where
  pub formed : IsProgram q
  pub keeps : KeepsInOne p q
  pub frames : (entry : ℕ) (before after : Graph) → graph_at p.graphs entry ≡ Some before
      → graph_at q.graphs entry ≡ Some after → KeepsFrame before after

-- Where all halves and flags pass and no argument is wanted after a call that may change it, the program is kept by the
-- one in which just what is wanted passes.
abbrev pub LocalisedKeeps : Type 0
LocalisedKeeps = (back : ℕ → List ℕ) (p : Program) (sums : List Summary) → IsProgram p → PassesAll back p
    → AreSummaries p sums → ReusesNone p → IsKeptBy p (localised sums p)

-- in the localised program just what is wanted passes
abbrev pub LocalisedPassesJust : Type 0
LocalisedPassesJust = (back : ℕ → List ℕ) (p : Program) (sums : List Summary) → IsProgram p → PassesAll back p
    → AreSummaries p sums → PassesJust (summary_at p.graphs sums) (localised sums p)
