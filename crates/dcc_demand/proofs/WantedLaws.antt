-- What is wanted is the least closed family.
use Rattle.std.proofs.Common.{◌≡◌, ℕ, true, sym, subst}
use Rattle.std.specs.Prelude.{Option, Some}
use Rattle.dcc_demand.specs.Procedures.{Procedures, ChangeFamily, CallChanges}
use Rattle.dcc_demand.specs.Changes.{Changes}
use Rattle.dcc_demand.specs.Wanted.{IsWantedBy, Wanted, WantedFamily, IsClosedUnderDemand, IsResult}
use Rattle.dcc_demand.specs.Laws.{CallsPassWanted}

module _ {Point Location Word : Type 0} (p : Procedures Point Location Word) where
  pub wanted-closed : (changed : ChangeFamily Location) → IsClosedUnderDemand p changed (IsWantedBy p changed)
  wanted-closed changed = record {
    used = λ i a l u. IsWantedBy.used u;
    exposed = λ i a l e. IsWantedBy.exposed e;
    made_of = λ i a b l to g w m d. IsWantedBy.made_of g w m d;
    unwritten = λ i a b l g s n d. IsWantedBy.unwritten g s n d;
    taken = λ i callee a l c q d. IsWantedBy.taken c q d;
    given_back = λ i caller a call after l r h c g d. IsWantedBy.given_back r h c g d;
  }

  module _ (changed : ChangeFamily Location) (wanted : WantedFamily Point Location) (closed : IsClosedUnderDemand p changed wanted) where
    pub wanted-least : {i : ℕ} {a : Point} {l : Location} → IsWantedBy p changed i a l → wanted i a l
    wanted-least {i} {a} {l} (IsWantedBy.used u) = closed.used i a l u
    wanted-least {i} {a} {l} (IsWantedBy.exposed e) = closed.exposed i a l e
    wanted-least {i} {a} {l} (IsWantedBy.made_of {b = b} {to = to} g w m d) = closed.made_of i a b l to g w m (wanted-least d)
    wanted-least {i} {a} {l} (IsWantedBy.unwritten {b = b} g s n d) = closed.unwritten i a b l g s n (wanted-least d)
    wanted-least {i} {a} {l} (IsWantedBy.taken {callee = callee} c q d) = closed.taken i callee a l c q (wanted-least d)
    wanted-least {i} {a} {l} (IsWantedBy.given_back {caller = caller} {call = call} {after = after} r h c g d) = closed.given_back i caller a call after l r h c g (wanted-least d)

  uncalled : {callee : Option ℕ} {j : ℕ} {l : Location} → callee ≡ Some j → ¬ Changes p j l → ¬ CallChanges (Changes p) callee l
  uncalled {l = l} e n = subst (λ o. ¬ CallChanges (Changes p) o l) (sym e) n

  pub calls-pass : CallsPassWanted p
  calls-pass = record {
    gives = λ i callee call after l c g d h. record { changes = h; caller = i; call = call; after = after; calls = c; goes = g; wanted = d };
    keeps = λ i callee call after l c g s d n. IsWantedBy.unwritten g s (uncalled c n) d;
    takes = λ i callee call l c param. IsWantedBy.taken c param.passes param.wanted;
  }

  pub results-wanted : (i : ℕ) (a : Point) (l : Location) → (p.procedure i).returns a ≡ true → IsResult p i l → Wanted p i a l
  results-wanted i a l r result = IsWantedBy.given_back r result.changes result.calls result.goes result.wanted
