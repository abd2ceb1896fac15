-- Trails: the points that a run of a procedure may pass one after another.
use Rattle.std.specs.Prelude.{List, [], ◌∷◌, Contains}
use Rattle.dcc_demand.specs.Procedures.{Procedure}

module _ {Point Location Word : Type 0} (procedure : Procedure Point Location Word) where
  -- the points of the list, the newest first, lead from the procedure's entry to the point
  pub data IsTrail : List Point → Point → Type 0 where
    enters : IsTrail [] procedure.entry
    goes_on : {passed : List Point} {a b : Point} → IsTrail passed a → Contains (procedure.next a) b
        → IsTrail (a ∷ passed) b
