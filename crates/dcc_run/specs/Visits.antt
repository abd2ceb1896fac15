-- The marked places that a run comes to.
use Rattle.std.specs.Prelude.{◌≡◌, ℕ, zero, suc, Bool, true, List, [], ◌∷◌, ◌++◌, filter, if◌then◌else◌, Option, Some}
use Rattle.std.specs.Prelude.{None}
use Rattle.dcc_run.specs.End.{is_over}
use Rattle.dcc_run.specs.Event.{Event}
use Rattle.dcc_run.specs.System.{System, events_after, end_after}

-- a visit: a place that is about to be executed, with the events so far
pub record Visit (P : Type 0) : Type 0 where
  pub place : P
  pub events : List Event

-- the marked place of a state, as a list of at most one visit
abbrev pub visit_at : {S P : Type 0} → System S → S → Option P → List (Visit P)
visit_at system s (Some place) = record { place = place; events = system.events s } ∷ []
visit_at system s None = []

-- the visit of a state; a run that is over visits nothing
abbrev pub visit_of : {S P : Type 0} → System S → (S → Option P) → S → List (Visit P)
visit_of system mark s = if is_over (system.end s) then [] else visit_at system s (mark s)

-- the visits of the first n steps, in their order
abbrev pub visits : {S P : Type 0} → System S → (S → Option P) → ℕ → S → List (Visit P)
visits system mark zero s = []
visits system mark (suc n) s = visit_of system mark s ++ visits system mark n (system.step s)

-- the visits of the places that are kept
abbrev pub visits_of : {P : Type 0} → (P → Bool) → List (Visit P) → List (Visit P)
visits_of kept vs = filter (λ v. kept v.place) vs

-- the two runs end alike, with the same events
pub record EndsAlike {S T : Type 0} (first : System S) (s : S) (n : ℕ) (second : System T) (t : T)
    (m : ℕ) : Type 0 where
  pub end : end_after second m t ≡ end_after first n s
  pub events : events_after second m t ≡ events_after first n s

-- The second run visits the kept places that the first one visits, with the same events, and the two end alike.
-- For each number of steps of one of them there is a number of steps of the other that shows it.
pub record VisitsKept {S T P : Type 0} (kept : P → Bool) (first : System S) (mark : S → Option P) (s : S)
    (second : System T) (other_mark : T → Option P) (t : T) : Type 0 where
  pub forth : (n : ℕ) → (m : ℕ) × (visits second other_mark m t ≡ visits_of kept (visits first mark n s)) ×
      (is_over (end_after first n s) ≡ true → EndsAlike first s n second t m)
  pub back : (m : ℕ) → (n : ℕ) × (visits second other_mark m t ≡ visits_of kept (visits first mark n s)) ×
      (is_over (end_after second m t) ≡ true → EndsAlike first s n second t m)
