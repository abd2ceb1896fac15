-- Closed tables have all that is changed and all that is wanted.
use Rattle.std.proofs.Common.{◌≡◌, ℕ, Bool, true, false, ◌||◌, not, refl, ap, ◌∙◌, true≢false}
use Rattle.std.specs.Prelude.{Option, Some, None, if◌then◌else◌}
use Rattle.dcc_demand.specs.Procedures.{Effect, Leaves, Copies, Pops, Makes, Procedures, is_left, CallChanges}
use Rattle.dcc_demand.specs.Changes.{Changes}
use Rattle.dcc_demand.specs.Wanted.{Wanted, IsClosedUnderDemand}
use Rattle.dcc_demand.specs.Spread.{IsReached, MayChange, MayHaveWritten, MayNotHaveSaved, MayHaveLost}
use Rattle.dcc_demand.specs.Tables.{Tables, written_after, unsaved_after, lost_after, AreClosed, TellsApart, TellsChanges, changed_in, wanted_in}
use Rattle.dcc_demand.proofs.SpreadLaws.{lost_tells, changes_spread}
use Rattle.dcc_demand.proofs.WantedLaws.{wanted-least}

-- What is so after a point.

written_anew : {Location Word : Type 0} (effect : Effect Location Word) (b : Bool) → is_left effect ≡ false → written_after effect b ≡ true
written_anew Leaves b e = absurd (true≢false e)
written_anew (Copies other) b e = refl
written_anew (Pops word) b e = refl
written_anew Makes b e = refl

written_still : {Location Word : Type 0} (effect : Effect Location Word) (b : Bool) → b ≡ true → written_after effect b ≡ true
written_still Leaves b e = e
written_still (Copies other) b e = refl
written_still (Pops word) b e = refl
written_still Makes b e = refl

pushed_other : {Location : Type 0} (same : Location → Location → Bool) → TellsApart same → (other l : Location) (b : Bool) → ¬ (other ≡ l) → (if same other l then b else true) ≡ true
pushed_other same apart other l b n = by (same other l) refl
  where
    by : (c : Bool) → same other l ≡ c → (if c then b else true) ≡ true
    by true e = absurd (n (apart other l e))
    by false e = refl

pushed_late : (c b : Bool) → b ≡ true → (if c then b else true) ≡ true
pushed_late true b e = e
pushed_late false b e = refl

popped_lost : (o b : Bool) → b ≡ true → (not o || b) ≡ true
popped_lost true b e = e
popped_lost false b e = refl

module _ {Point Location Word : Type 0} (p : Procedures Point Location Word) (same : Location → Location → Bool) (t : Tables Point Location Word) (apart : TellsApart same) (closed : AreClosed p same t) where
  reached : {i : ℕ} {a : Point} {l : Location} → MayHaveLost p i a l → IsReached (p.procedure i) a
  reached lost = let found = lost_tells p lost in (found.0, found.1)

  mutual
    change_told : {i : ℕ} {l : Location} → MayChange p i l → t.changed i l ≡ true
    change_told {i} {l} (MayChange.returned {a = a} q r lost) = closed.changed i a l (reached lost) q r (lost_told lost)

    written_told : {i : ℕ} {b : Point} {l : Location} → MayHaveWritten p i b l → t.written i b l ≡ true
    written_told {i} {b} {l} (MayHaveWritten.by_point {a = a} edge e) = closed.written i a b l edge (written_anew (((p.procedure i).action a).effect l) (t.written i a l) e)
    written_told {i} {b} {l} (MayHaveWritten.by_call {callee = callee} {a = a} edge e c) = (closed.called i callee a b l edge e (change_told c)).0
    written_told {i} {b} {l} (MayHaveWritten.before {a = a} edge w) = closed.written i a b l edge (written_still (((p.procedure i).action a).effect l) (t.written i a l) (written_told w))

    unsaved_told : {i : ℕ} {b : Point} {l : Location} {word : Word} → MayNotHaveSaved p i b l word → t.unsaved i b l word ≡ true
    unsaved_told {i} {b} {l} {word} MayNotHaveSaved.unpushed = closed.begins i l word
    unsaved_told {i} {b} {l} {word} (MayNotHaveSaved.overwritten {a = a} edge e) = closed.unsaved i a b l word edge
        (ap (λ x. unsaved_after same l x (t.written i a l) (t.unsaved i a l word)) e)
    unsaved_told {i} {b} {l} {word} (MayNotHaveSaved.by_other {a = a} {other = other} edge e n) = closed.unsaved i a b l word edge
        (ap (λ x. unsaved_after same l x (t.written i a l) (t.unsaved i a l word)) e ∙ pushed_other same apart other l (t.written i a l) n)
    unsaved_told {i} {b} {l} {word} (MayNotHaveSaved.too_late {a = a} edge e w) = closed.unsaved i a b l word edge
        (ap (λ x. unsaved_after same l x (t.written i a l) (t.unsaved i a l word)) e ∙ pushed_late (same l l) (t.written i a l) (written_told w))
    unsaved_told {i} {b} {l} {word} (MayNotHaveSaved.kept {a = a} edge e u) = closed.unsaved i a b l word edge
        (ap (λ x. unsaved_after same l x (t.written i a l) (t.unsaved i a l word)) e ∙ unsaved_told u)

    lost_told : {i : ℕ} {b : Point} {l : Location} → MayHaveLost p i b l → t.lost i b l ≡ true
    lost_told {i} {b} {l} (MayHaveLost.in_call {callee = callee} {a = a} edge e c) = (closed.called i callee a b l edge e (change_told c)).1
    lost_told {i} {b} {l} (MayHaveLost.made {a = a} edge e) = closed.lost i a b l edge (ap (λ x. lost_after (p.procedure i).is_private x (t.unsaved i a l) (t.lost i a l)) e)
    lost_told {i} {b} {l} (MayHaveLost.copied {a = a} edge e) = closed.lost i a b l edge (ap (λ x. lost_after (p.procedure i).is_private x (t.unsaved i a l) (t.lost i a l)) e)
    lost_told {i} {b} {l} (MayHaveLost.popped_open {a = a} {word = word} edge e o) = closed.lost i a b l edge
        (ap (λ x. lost_after (p.procedure i).is_private x (t.unsaved i a l) (t.lost i a l)) e ∙ ap (λ x. not x || t.unsaved i a l word) o)
    lost_told {i} {b} {l} (MayHaveLost.popped_unsaved {a = a} {word = word} edge e u) = closed.lost i a b l edge
        (ap (λ x. lost_after (p.procedure i).is_private x (t.unsaved i a l) (t.lost i a l)) e ∙ popped_lost ((p.procedure i).is_private word) (t.unsaved i a l word) (unsaved_told u))
    lost_told {i} {b} {l} (MayHaveLost.left {a = a} edge e lost) = closed.lost i a b l edge
        (ap (λ x. lost_after (p.procedure i).is_private x (t.unsaved i a l) (t.lost i a l)) e ∙ lost_told lost)

  pub all_changed : (i : ℕ) (l : Location) → Changes p i l → t.changed i l ≡ true
  all_changed i l c = change_told (changes_spread p i l c)

-- By a table that tells just what is changed, what is closed is closed by what is changed.
pub all_wanted : {Point Location Word : Type 0} (p : Procedures Point Location Word) (changed : ℕ → Location → Bool) (wanted : ℕ → Point → Location → Bool) → TellsChanges p changed
    → IsClosedUnderDemand p (changed_in changed) (wanted_in wanted) → (i : ℕ) (a : Point) (l : Location) → Wanted p i a l → wanted i a l ≡ true
all_wanted {Location = Location} p changed wanted tells closed i a l d = wanted-least p (Changes p) (wanted_in wanted) truly d
  where
    uncalled : (callee : Option ℕ) (l : Location) → ¬ CallChanges (Changes p) callee l → ¬ CallChanges (changed_in changed) callee l
    uncalled (Some j) l n c = n ((tells j l).0 c)
    uncalled None l n c = c

    truly : IsClosedUnderDemand p (Changes p) (wanted_in wanted)
    truly = record {
      used = closed.used;
      exposed = closed.exposed;
      made_of = closed.made_of;
      unwritten = λ i a b l g s n w. closed.unwritten i a b l g s (uncalled ((p.procedure i).action a).callee l n) w;
      taken = closed.taken;
      given_back = λ i caller a call after l r h c g w. closed.given_back i caller a call after l r ((tells i l).1 h) c g w;
    }
