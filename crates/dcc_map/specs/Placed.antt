-- The events of a run, each with the place of the step that made it.
use Rattle.std.specs.Prelude.{ℕ, zero, suc, List, [], ◌++◌, length, drop, map}
use Rattle.dcc_run.specs.Event.{Event}
use Rattle.dcc_run.specs.System.{System}

-- an event, and the place of the step that made it
pub record Placed : Type 0 where
  pub at : ℕ
  pub event : Event

-- events at a place
abbrev pub placed_at : ℕ → List Event → List Placed
placed_at at events = map (λ event. record { at = at; event = event }) events

-- events without their places
abbrev pub events_of : List Placed → List Event
events_of placed = map (λ p. p.event) placed

-- what happens in the next step
abbrev pub step_events : {S : Type 0} → System S → S → List Event
step_events system s = drop (length (system.events s)) (system.events (system.step s))

-- the events of the next n steps, the oldest first; a step's place is told by the state before it
abbrev pub placed_events : {S : Type 0} → System S → (S → ℕ) → ℕ → S → List Placed
placed_events system place zero s = []
placed_events system place (suc n) s =
    placed_at (place s) (step_events system s) ++ placed_events system place n (system.step s)
