-- Runs of which places are marked, and which may stop at a step of which nothing is claimed.
use Rattle.std.specs.Prelude.{◌≡◌, ℕ, ◌<◌, Bool, true, false, ◌||◌, Option, None, is_some}
use Rattle.dcc_run.specs.End.{is_over}
use Rattle.dcc_run.specs.System.{System, IsLawful, after}

-- A system whose marked places are told: a state's mark is the place that it is about to execute, where this is marked.
-- A foul state is one where the run was stopped at a step of which nothing is claimed.
pub record Watched (S P : Type 0) : Type 0 where
  pub system : System S
  pub mark : S → Option P
  pub foul : S → Bool

-- a run that has ended or is foul stays, events only join, and a foul state has no mark
pub record IsWatchable {S P : Type 0} (w : Watched S P) : Type 0 where
  pub lawful : IsLawful w.system
  pub stays : (s : S) → w.foul s ≡ true → w.system.step s ≡ s
  pub unmarked : (s : S) → w.foul s ≡ true → w.mark s ≡ None

-- the state after n steps
abbrev pub state : {S P : Type 0} → Watched S P → ℕ → S → S
state w n s = after w.system.step n s

-- the run is at a marked place, or over
abbrev pub is_shown : {S P : Type 0} → Watched S P → S → Bool
is_shown w s = is_over (w.system.end s) || is_some (w.mark s)

-- nothing is seen of the run here: it is at no marked place, not over, and not foul
pub record IsQuiet {S P : Type 0} (w : Watched S P) (s : S) : Type 0 where
  pub unmarked : w.mark s ≡ None
  pub running : is_over (w.system.end s) ≡ false
  pub clean : w.foul s ≡ false

-- all states strictly between this one and the one i steps after it are quiet
abbrev pub IsQuietUntil : {S P : Type 0} → Watched S P → ℕ → S → Type 0
IsQuietUntil w i s = (k : ℕ) → 0 < k → k < i → IsQuiet w (state w k s)
