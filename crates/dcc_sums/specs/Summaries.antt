-- What passes between each procedure of a program and its callers, and the two constructs that a text can't have of it:
-- an argument that is wanted after its call though the callee may change it, and several values given back.
use Rattle.std.specs.Prelude.{◌≡◌, ℕ, false, ◌⊎◌, ◌↔◌, List, filter, All, Contains}
use Rattle.std.specs.List.{AllZip}
use Rattle.dcc_num.specs.declared.Reg.{Reg}
use Rattle.dcc_num.specs.declared.Reg.TheVariants.{Ax, Dx}
use Rattle.dcc_num.specs.declared.Half.{Half as HalfName}
use Rattle.dcc_num.specs.declared.FlagName.{FlagName}
use Rattle.dcc_ir.specs.declared.syntax.Loc.{Loc}
use Rattle.dcc_ir.specs.declared.syntax.Loc.TheVariants.{Half, Flag}
use Rattle.dcc_ir.specs.Tree.{Expr, Call, Graph, Program, Summary}
use Rattle.dcc_ir.specs.Live.{is_among}
use Rattle.dcc_ir.specs.Passing.{passed, param_of}
use Rattle.dcc_ir.specs.Run.{graph_at}
use Rattle.dcc_ir.specs.Flow.{graph_or_none}
use Rattle.dcc_demand.specs.Changes.{IsPreserved}
use Rattle.dcc_demand.specs.Wanted.{Wanted, IsParam, IsResult}
use Rattle.dcc_sums.specs.Points.{Position, next_of, Executes, site_of}
use Rattle.dcc_sums.specs.Instance.{passes, procedures_of}

-- the list has just the locations of the kind, each once, in the order in which they pass
pub record AreJust (Kind : Loc → Type 0) (locations : List Loc) : Type 0 where
  pub order : locations ≡ filter (λ location. is_among locations location) passed
  pub exact : (location : Loc) → Contains locations location ↔ Kind location

-- The summary of a graph: it takes what is wanted at its entry, if it takes halves and flags at all, as all graphs do
-- but the first. It gives back what it changes and what is wanted after some call of it, and preserves what it doesn't
-- change.
pub record IsSummary (p : Program) (graph : Graph) (sum : Summary) : Type 0 where
  pub params : AreJust (λ location. Contains graph.params (param_of location)
      × IsParam (procedures_of p) graph.entry location) sum.params
  pub results : AreJust (IsResult (procedures_of p) graph.entry) sum.results
  pub preserved : AreJust (IsPreserved (procedures_of p) graph.entry) sum.preserved

-- the summaries of all graphs, in their order
abbrev pub AreSummaries : Program → List Summary → Type 0
AreSummaries p sums = AllZip (IsSummary p) p.graphs sums

-- Constructs.

-- at the point of the graph with that entry stands a call that gives a byte of an argument back into the location,
-- where it is wanted
pub record IsReused (p : Program) (entry : ℕ) (a : Position) (location : Loc) : Type 0 where
  pub results : List Loc
  pub callee : ℕ
  pub arguments : List Expr
  pub depth : ℕ
  pub calls : site_of (graph_or_none (graph_at p.graphs entry)) a ≡ Executes (Call results callee arguments depth)
  pub given : Contains results location
  pub argument : passes location ≡ false
  pub wanted : Wanted (procedures_of p) entry (next_of a) location

-- no argument is wanted after a call that may change it
abbrev pub ReusesNone : Program → Type 0
ReusesNone p = (entry : ℕ) (a : Position) (location : Loc) → ¬ IsReused p entry a location

-- the location is a half of the register
abbrev pub IsHalfOf : Reg → Loc → Type 0
IsHalfOf r location = (h : HalfName) × (location ≡ Half r h)

-- the locations hold at most one value: halves of one register, a flag, or halves of AX and DX
abbrev pub AreOneValue : List Loc → Type 0
AreOneValue locations =
    ((r : Reg) × All (IsHalfOf r) locations) ⊎ ((f : FlagName) × All (λ location. location ≡ Flag f) locations)
    ⊎ All (λ location. IsHalfOf Ax location ⊎ IsHalfOf Dx location) locations

-- no procedure gives several values back
abbrev pub GivesOneValue : List Summary → Type 0
GivesOneValue sums = All (λ sum. AreOneValue sum.results) sums
