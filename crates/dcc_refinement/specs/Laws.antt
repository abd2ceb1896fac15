-- Refined procedures have the same relations.
use Rattle.std.specs.Prelude.{◌≡◌, ℕ, ◌↔◌, List, ◌∷◌, ◌++◌, Contains}
use Rattle.dcc_demand.specs.Procedures.{Procedures}
use Rattle.dcc_demand.specs.Changes.{Changes, IsPreserved}
use Rattle.dcc_demand.specs.Wanted.{Wanted, IsParam, IsResult}
use Rattle.dcc_refinement.specs.Steps.{Flows, Uses}
use Rattle.dcc_refinement.specs.Refinement.{Refinement, IsSettled, IsRefined}

module _ {Point Location Word FinePoint FineLocation FineWord : Type 0} (coarse : Procedures Point Location Word)
    (fine : Procedures FinePoint FineLocation FineWord)
    (r : Refinement Point Location Word FinePoint FineLocation FineWord) where
  -- the last steps of a point use the fine location, or carry it to one that stands for what is wanted after the point
  pub data IsAwaited (i : ℕ) (a : Point) (steps : List FinePoint) (fine_location : FineLocation) : Type 0 where
    used : Uses (fine.procedure i) steps fine_location → IsAwaited i a steps fine_location
    carried : {fine_after : FineLocation} {after : Location} {b : Point}
        → Flows (fine.procedure i) steps fine_location fine_after → Contains ((coarse.procedure i).next a) b
        → r.same i after fine_after → Wanted coarse i b after → IsAwaited i a steps fine_location

  -- What holds of one of two locations that are one in a procedure holds of the other one: what is changed and
  -- preserved, what is wanted before a point and where its steps begin, what is taken where the entries are one, and
  -- what is given back. Between the steps of a point just that is wanted which those that are left use or carry on.
  pub record HaveSameRelations : Type 0 where
    pub changes : (i : ℕ) (location : Location) (fine_location : FineLocation) → r.same i location fine_location
        → Changes coarse i location ↔ Changes fine i fine_location
    pub preserved : (i : ℕ) (location : Location) (fine_location : FineLocation) → r.same i location fine_location
        → IsPreserved coarse i location ↔ IsPreserved fine i fine_location
    pub wanted : (i : ℕ) (a : Point) (location : Location) (fine_location : FineLocation)
        → r.same i location fine_location → IsSettled coarse fine r i a
        → Wanted coarse i a location ↔ Wanted fine i (r.begin i a) fine_location
    pub between : (i : ℕ) (a : Point) (first step : FinePoint) (before steps : List FinePoint)
        (fine_location : FineLocation) → r.steps i a ≡ first ∷ (before ++ (step ∷ steps))
        → Wanted fine i step fine_location ↔ IsAwaited i a (step ∷ steps) fine_location
    pub params : (i : ℕ) (location : Location) (fine_location : FineLocation) → r.same i location fine_location
        → r.begin i (coarse.procedure i).entry ≡ (fine.procedure i).entry
        → IsParam coarse i location ↔ IsParam fine i fine_location
    pub results : (i : ℕ) (location : Location) (fine_location : FineLocation) → r.same i location fine_location
        → IsResult coarse i location ↔ IsResult fine i fine_location

  -- refined procedures have the same relations as the coarse ones
  abbrev pub RefinedAgree : Type 0
  RefinedAgree = IsRefined coarse fine r → HaveSameRelations
