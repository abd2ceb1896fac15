-- Deterministic systems and their runs: a step, the events at the console so far, and the end.
use Rattle.std.specs.Prelude.{◌≡◌, ℕ, zero, suc, true, List}
use Rattle.dcc_run.specs.End.{End, is_over}
use Rattle.dcc_run.specs.Event.{Event, written_by}
use Rattle.dcc_run.specs.Prefix.{IsPrefix}

-- what a step does, what has happened at the console by a state, the oldest first, and how it has ended
pub record System (S : Type 0) : Type 0 where
  pub step : S → S
  pub events : S → List Event
  pub end : S → End

-- the state after n steps
abbrev pub after : {S : Type 0} → (S → S) → ℕ → S → S
after step zero s = s
after step (suc n) s = after step n (step s)

-- a state that has ended stays, and no step takes events back
pub record IsLawful {S : Type 0} (system : System S) : Type 0 where
  pub stays : (s : S) → is_over (system.end s) ≡ true → system.step s ≡ s
  pub grows : (s : S) → IsPrefix (system.events s) (system.events (system.step s))

-- the events of the first n steps
abbrev pub events_after : {S : Type 0} → System S → ℕ → S → List Event
events_after system n s = system.events (after system.step n s)

-- the output of the first n steps
abbrev pub out_after : {S : Type 0} → System S → ℕ → S → List ℕ
out_after system n s = written_by (events_after system n s)

-- the end after n steps
abbrev pub end_after : {S : Type 0} → System S → ℕ → S → End
end_after system n s = system.end (after system.step n s)
