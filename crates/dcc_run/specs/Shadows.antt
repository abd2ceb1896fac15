-- One run shadows another: it comes to the same marked places with the same events, and ends alike, as long as nothing
-- foul has happened.
use Rattle.std.specs.Prelude.{◌≡◌, ℕ, ◌+◌, ◌*◌, ◌<◌, ◌≤◌, ◌⊎◌, Bool, true, false, length, if◌then◌else◌, Option, Some}
use Rattle.std.specs.Prelude.{None}
use Rattle.dcc_run.specs.End.{is_over}
use Rattle.dcc_run.specs.Prefix.{IsPrefix}
use Rattle.dcc_run.specs.System.{System, end_after, events_after}
use Rattle.dcc_run.specs.Visits.{visits, visits_of, EndsAlike}
use Rattle.dcc_run.specs.Watched.{Watched, state, is_shown, IsQuietUntil}

-- Two states from which the runs are seen alike: neither is over or foul, they have one mark and the same events.
pub record AreAlike {S T P : Type 0} (first : Watched S P) (second : Watched T P) (s : S) (t : T) : Type 0 where
  pub mark : second.mark t ≡ first.mark s
  pub events : second.system.events t ≡ first.system.events s
  pub running : is_over (first.system.end s) ≡ false
  pub other_running : is_over (second.system.end t) ≡ false
  pub clean : first.foul s ≡ false

-- How two stretches of runs may end: in states that are related again; both over, with the same end and events; or the
-- first one foul, where the second comes to something that is seen and whose events begin with its.
pub data ComesTo {S T P : Type 0} (first : Watched S P) (second : Watched T P) (related : S → T → Type 0) (s : S)
    (t : T) : Type 0 where
  still_related : related s t → ComesTo first second related s t
  both_over : is_over (first.system.end s) ≡ true
      → second.system.end t ≡ first.system.end s
      → second.system.events t ≡ first.system.events s
      → ComesTo first second related s t
  first_foul : first.foul s ≡ true
      → is_shown second t ≡ true
      → IsPrefix (first.system.events s) (second.system.events t)
      → ComesTo first second related s t

-- From two states that are seen alike the runs go on, each at least one step and through quiet states, to where they
-- match again.
pub record AreMatched {S T P : Type 0} (first : Watched S P) (second : Watched T P) (related : S → T → Type 0) (s : S)
    (t : T) : Type 0 where
  pub alike : AreAlike first second s t
  pub steps : ℕ
  pub some : 0 < steps
  pub other_steps : ℕ
  pub others : 0 < other_steps
  pub quiet : IsQuietUntil first steps s
  pub other_quiet : IsQuietUntil second other_steps t
  pub comes : ComesTo first second related (state first steps s) (state second other_steps t)

-- From every two related states the runs go on to where they match again.
abbrev pub Matches : {S T P : Type 0} → Watched S P → Watched T P → (S → T → Type 0) → Type 0
Matches first second related = (s : _) (t : _) → related s t → AreMatched first second related s t

-- The second run, within m steps, has shown what the first one has within n: the same visits; where the first is over,
-- the second is over alike; and wherever the second is seen from then on, its events begin with the first one's.
pub record ShowsAt {S T P : Type 0} (first : Watched S P) (s : S) (n : ℕ) (second : Watched T P) (t : T)
    (m : ℕ) : Type 0 where
  pub visits_are : visits second.system second.mark m t ≡ visits first.system first.mark n s
  pub alike : is_over (end_after first.system n s) ≡ true → EndsAlike first.system s n second.system t m
  pub ahead : (k : ℕ) → m ≤ k → is_shown second (state second k t) ≡ true
      → IsPrefix (events_after first.system n s) (events_after second.system k t)

-- The second run shadows the first: for each number of steps after which the first isn't foul, the second has shown
-- what the first has within them.
abbrev pub Shadows : {S T P : Type 0} → Watched S P → S → Watched T P → T → Type 0
Shadows first s second t =
    (n : ℕ) → first.foul (state first n s) ≡ false → (m : ℕ) × ShowsAt first s n second t m

-- the run is at a marked place, and not over
pub record IsMarked {S P : Type 0} (w : Watched S P) (s : S) : Type 0 where
  pub place : P
  pub mark : w.mark s ≡ Some place
  pub running : is_over (w.system.end s) ≡ false

-- the run is at a marked place, over or foul
pub data IsSeen {S P : Type 0} (w : Watched S P) (s : S) : Type 0 where
  is_marked : IsMarked w s → IsSeen w s
  has_ended : is_over (w.system.end s) ≡ true → IsSeen w s
  is_foul : w.foul s ≡ true → IsSeen w s

-- The run keeps pace: within its first `begin` steps it is seen, and after each marked place it is seen again, within
-- `within` steps or still within the first `begin`.
pub record KeepsPace {S P : Type 0} (w : Watched S P) (s : S) (begin within : ℕ) : Type 0 where
  pub first : (i : ℕ) × (i ≤ begin) × IsSeen w (state w i s)
  pub next : (i : ℕ) → IsMarked w (state w i s) →
      (j : ℕ) × (i < j) × ((j ≤ begin) ⊎ (j ≤ i + within)) × IsSeen w (state w j s)

-- the marks of the kept places alone
abbrev pub kept_mark : {P : Type 0} → (P → Bool) → Option P → Option P
kept_mark kept None = None
kept_mark kept (Some place) = if kept place then Some place else None

-- the run with marks at the kept places alone
abbrev pub only : {S P : Type 0} → (P → Bool) → Watched S P → Watched S P
only kept w = record w { mark = λ s. kept_mark kept (w.mark s) }

-- The other run counts the visits of the watched one: after any number of steps of the watched run the other one,
-- after some steps of its own, stands alike. These are at least as many as kept places were visited, and at most
-- `within` for each visit and `within` more. The other run has no marks.
pub record CountsAt {S T P : Type 0} (kept : P → Bool) (w : Watched S P) (s : S) (m : ℕ) (other : System T) (t : T)
    (within j : ℕ) : Type 0 where
  pub low : length (visits_of kept (visits w.system w.mark m s)) ≤ j
  pub high : j ≤ within * (length (visits w.system w.mark m s) + 1)
  pub stands : EndsAlike w.system s m other t j

abbrev pub Counts : {S T P : Type 0} → (P → Bool) → Watched S P → S → System T → T → ℕ → Type 0
Counts kept w s other t within = (m : ℕ) → (j : ℕ) × CountsAt kept w s m other t within j
