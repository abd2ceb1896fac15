-- Two runs keep up with each other.
use Rattle.std.specs.Prelude.{◌≡◌, ℕ, true}
use Rattle.dcc_run.specs.End.{is_over}
use Rattle.dcc_run.specs.Prefix.{IsPrefix}
use Rattle.dcc_run.specs.System.{System, events_after, end_after}
use Rattle.dcc_run.specs.Visits.{EndsAlike}

-- After m steps of the second run its events begin with those of the first run's n steps; and where the first is over
-- by then, the second has ended alike, with the same events.
pub record KeepsUp {S T : Type 0} (first : System S) (s : S) (n : ℕ) (second : System T) (t : T) (m : ℕ) : Type 0 where
  pub events : IsPrefix (events_after first n s) (events_after second m t)
  pub alike : is_over (end_after first n s) ≡ true → EndsAlike first s n second t m
