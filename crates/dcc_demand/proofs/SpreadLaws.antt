-- What spreads from point to point is what trails tell.
use Rattle.std.proofs.Common.{◌≡◌, ℕ, List, [], ◌∷◌, refl, sym, subst}
use Rattle.std.specs.Prelude.{Option, Some, None, Contains}
use Rattle.dcc_demand.specs.Procedures.{Procedure, Procedures, CallChanges}
use Rattle.dcc_demand.specs.Trail.{IsTrail}
use Rattle.dcc_demand.specs.Changes.{IsWritten, IsUnsaved, Loses, Changes}
use Rattle.dcc_demand.specs.Spread.{IsEdge, MayChange, MayHaveWritten, MayNotHaveSaved, MayHaveLost}
use Rattle.dcc_demand.proofs.ChangeLaws.{changes-closed, changes-least}

-- some trail to the point has done that
abbrev pub SomeTrail : {Point Location Word : Type 0} → Procedure Point Location Word → (List Point → Type 0) → Point → Type 0
SomeTrail {Point} procedure Has a = (passed : List Point) × IsTrail procedure passed a × Has passed

module _ {Point Location Word : Type 0} (p : Procedures Point Location Word) where
  call_found : {callee : Option ℕ} {j : ℕ} {l : Location} → callee ≡ Some j → Changes p j l → CallChanges (Changes p) callee l
  call_found {l = l} e c = subst (λ o. CallChanges (Changes p) o l) (sym e) c

  along : {i : ℕ} {a b : Point} {Has : List Point → Type 0} → (edge : IsEdge (p.procedure i) a b) → Has (a ∷ edge.reached.0) → SomeTrail (p.procedure i) Has b
  along {a = a} edge has = (a ∷ edge.reached.0, IsTrail.goes_on edge.reached.1 edge.goes, has)

  mutual
    pub changed_tells : {i : ℕ} {l : Location} → MayChange p i l → Changes p i l
    changed_tells {i} {l} (MayChange.returned {a = a} q r lost) = let found = lost_tells lost in
        changes-closed p i l (record { passes = q; passed = found.0; at = a; trail = found.1; returns = r; loses = found.2 })

    written_tells : {i : ℕ} {a : Point} {l : Location} → MayHaveWritten p i a l → SomeTrail (p.procedure i) (IsWritten (Changes p) (p.procedure i) l) a
    written_tells (MayHaveWritten.by_point edge e) = along edge (IsWritten.by_point e)
    written_tells (MayHaveWritten.by_call edge e c) = along edge (IsWritten.by_call (call_found e (changed_tells c)))
    written_tells (MayHaveWritten.before {a = a} edge w) = let found = written_tells w in (a ∷ found.0, IsTrail.goes_on found.1 edge.goes, IsWritten.before found.2)

    unsaved_tells : {i : ℕ} {a : Point} {l : Location} {word : Word} → MayNotHaveSaved p i a l word → SomeTrail (p.procedure i) (IsUnsaved (Changes p) (p.procedure i) l word) a
    unsaved_tells MayNotHaveSaved.unpushed = ([], IsTrail.enters, IsUnsaved.unpushed)
    unsaved_tells (MayNotHaveSaved.overwritten edge e) = along edge (IsUnsaved.overwritten e)
    unsaved_tells (MayNotHaveSaved.by_other edge e n) = along edge (IsUnsaved.by_other e n)
    unsaved_tells (MayNotHaveSaved.too_late {a = a} edge e w) = let found = written_tells w in (a ∷ found.0, IsTrail.goes_on found.1 edge.goes, IsUnsaved.too_late e found.2)
    unsaved_tells (MayNotHaveSaved.kept {a = a} edge e u) = let found = unsaved_tells u in (a ∷ found.0, IsTrail.goes_on found.1 edge.goes, IsUnsaved.kept e found.2)

    pub lost_tells : {i : ℕ} {a : Point} {l : Location} → MayHaveLost p i a l → SomeTrail (p.procedure i) (Loses (Changes p) (p.procedure i) l) a
    lost_tells (MayHaveLost.in_call edge e c) = along edge (Loses.in_call (call_found e (changed_tells c)))
    lost_tells (MayHaveLost.made edge e) = along edge (Loses.made e)
    lost_tells (MayHaveLost.copied edge e) = along edge (Loses.copied e)
    lost_tells (MayHaveLost.popped_open edge e o) = along edge (Loses.popped_open e o)
    lost_tells (MayHaveLost.popped_unsaved {a = a} edge e u) = let found = unsaved_tells u in (a ∷ found.0, IsTrail.goes_on found.1 edge.goes, Loses.popped_unsaved e found.2)
    lost_tells (MayHaveLost.left {a = a} edge e lost) = let found = lost_tells lost in (a ∷ found.0, IsTrail.goes_on found.1 edge.goes, Loses.left e found.2)

  -- What a trail does has spread along it.

  call_spreads : (callee : Option ℕ) (l : Location) → CallChanges (MayChange p) callee l → (j : ℕ) × (callee ≡ Some j) × MayChange p j l
  call_spreads (Some j) l c = (j, refl, c)
  call_spreads None l c = absurd c

  edge_after : {i : ℕ} {a b : Point} {passed : List Point} → IsTrail (p.procedure i) passed a → Contains ((p.procedure i).next a) b → IsEdge (p.procedure i) a b
  edge_after {passed = passed} trail g = record { reached = (passed, trail); goes = g }

  module _ (i : ℕ) (l : Location) where
    written_spreads : {a : Point} {passed : List Point} → IsTrail (p.procedure i) passed a → IsWritten (MayChange p) (p.procedure i) l passed → MayHaveWritten p i a l
    written_spreads IsTrail.enters w = elim w [ ]
    written_spreads (IsTrail.goes_on trail g) (IsWritten.by_point e) = MayHaveWritten.by_point (edge_after trail g) e
    written_spreads (IsTrail.goes_on {a = a} trail g) (IsWritten.by_call c) = let found = call_spreads ((p.procedure i).action a).callee l c in
        MayHaveWritten.by_call (edge_after trail g) found.1 found.2
    written_spreads (IsTrail.goes_on trail g) (IsWritten.before w) = MayHaveWritten.before (edge_after trail g) (written_spreads trail w)

    unsaved_spreads : {word : Word} {a : Point} {passed : List Point} → IsTrail (p.procedure i) passed a → IsUnsaved (MayChange p) (p.procedure i) l word passed → MayNotHaveSaved p i a l word
    unsaved_spreads IsTrail.enters u = MayNotHaveSaved.unpushed
    unsaved_spreads (IsTrail.goes_on trail g) (IsUnsaved.overwritten e) = MayNotHaveSaved.overwritten (edge_after trail g) e
    unsaved_spreads (IsTrail.goes_on trail g) (IsUnsaved.by_other e n) = MayNotHaveSaved.by_other (edge_after trail g) e n
    unsaved_spreads (IsTrail.goes_on trail g) (IsUnsaved.too_late e w) = MayNotHaveSaved.too_late (edge_after trail g) e (written_spreads trail w)
    unsaved_spreads (IsTrail.goes_on trail g) (IsUnsaved.kept e u) = MayNotHaveSaved.kept (edge_after trail g) e (unsaved_spreads trail u)

    lost_spreads : {a : Point} {passed : List Point} → IsTrail (p.procedure i) passed a → Loses (MayChange p) (p.procedure i) l passed → MayHaveLost p i a l
    lost_spreads IsTrail.enters lost = elim lost [ ]
    lost_spreads (IsTrail.goes_on {a = a} trail g) (Loses.in_call c) = let found = call_spreads ((p.procedure i).action a).callee l c in
        MayHaveLost.in_call (edge_after trail g) found.1 found.2
    lost_spreads (IsTrail.goes_on trail g) (Loses.made e) = MayHaveLost.made (edge_after trail g) e
    lost_spreads (IsTrail.goes_on trail g) (Loses.copied e) = MayHaveLost.copied (edge_after trail g) e
    lost_spreads (IsTrail.goes_on trail g) (Loses.popped_open e o) = MayHaveLost.popped_open (edge_after trail g) e o
    lost_spreads (IsTrail.goes_on trail g) (Loses.popped_unsaved e u) = MayHaveLost.popped_unsaved (edge_after trail g) e (unsaved_spreads trail u)
    lost_spreads (IsTrail.goes_on trail g) (Loses.left e lost) = MayHaveLost.left (edge_after trail g) e (lost_spreads trail lost)

  pub changes_spread : (i : ℕ) (l : Location) → Changes p i l → MayChange p i l
  changes_spread = changes-least p (MayChange p) (λ i l lost. MayChange.returned lost.passes lost.returns (lost_spreads i l lost.trail lost.loses))
