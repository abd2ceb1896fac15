-- Runs of which the events are still to come, one at a time.
use Rattle.std.specs.Prelude.{◌≡◌, ◌<◌, ℕ, List, [], ◌∷◌, ◌++◌, map, Option, Some, None}
use Rattle.dcc_run.specs.End.{End as RunEnd, Running as running}
use Rattle.dcc_run.specs.Event.{Event as RunEvent, Wrote as wrote, Took as took, MetEnd as met_end}
use Rattle.dcc_run.specs.System.{end_after}
use Rattle.dcc_console.specs.Console.{Executor, left_in, end_in}
use Rattle.dcc_console.specs.Steps.{IsRefusedRead}
use Rattle.dcc_console.specs.WithConsole.{beside_console}
use Rattle.dcc_step.specs.Core.{Core}
use Rattle.dcc_crun.specs.declared.run.CRun.{CRun}
use Rattle.dcc_map.specs.declared.event.Event.{Event}
use Rattle.dcc_map.specs.declared.event.Event.TheVariants.{Wrote, Took, MetEnd}
use Rattle.dcc_map.specs.declared.machine_side.MachineSide.{MachineSide}
use Rattle.dcc_map.specs.declared.text_side.TextSide.{TextSide}
use Rattle.dcc_map.specs.Placed.{Placed, placed_at, placed_events}
use Rattle.dcc_map.specs.Comparison.{end_of}

-- an event that the code tells
abbrev pub event_of : Event → RunEvent
event_of (Wrote byte) = wrote byte
event_of (Took byte) = took byte
event_of MetEnd = met_end

-- what happens where this is the next key, or where there is none
abbrev pub key_event : Option ℕ → Event
key_event (Some byte) = Took byte
key_event None = MetEnd

-- What is kept of a run: the code, the input that is left, how many more steps may be made, the events that are
-- pending, and how the run has ended.
pub record Side (C : Type 0) : Type 0 where
  pub code : C
  pub keys : List ℕ
  pub steps : ℕ
  pub pending : List Placed
  pub end : RunEnd

abbrev pub machine_side : MachineSide → Side Core
machine_side side = record {
  code = side.machine;
  keys = side.keys.items;
  steps = side.steps;
  pending = placed_at side.at (map event_of side.pending.items);
  end = end_of side.end;
}

abbrev pub text_side : TextSide → Side CRun
text_side side = record {
  code = side.run;
  keys = side.keys.items;
  steps = side.steps;
  pending = placed_at side.line (map event_of side.pending.items);
  end = end_of side.end;
}

-- no event is pending, and a further step may be made
abbrev pub MaySteps : {C : Type 0} → Side C → Type 0
MaySteps side = (side.pending ≡ []) × (0 < side.steps) × (side.end ≡ running)

-- A step of the code fails at a read while a key is withheld: it is one that takes a key.
abbrev pub Refuses : {W C S : Type 0} → Executor W C S → C → Type 0
Refuses executor code =
    IsRefusedRead executor (beside_console code (Some (0 ∷ [])) (Some [])) (beside_console code (Some (0 ∷ [])) (Some []))

module _ {W C S : Type 0} (executor : Executor W C S) (place : S → ℕ) (w : W) where
  -- These events are still to come, and the run ends so after them: it stands at a state of the system, has told how
  -- that has ended, and has events pending, after which those of the steps come that may still be made.
  pub record Coming (side : Side C) (coming : List Placed) (end : RunEnd) : Type 0 where
    pub state : S
    pub stands : executor.stands w side.code state
    pub left : left_in executor w state ≡ side.keys
    pub told : end_in executor w state ≡ side.end
    pub events : coming ≡ side.pending ++ placed_events (executor.console w).system place side.steps state
    pub ends : end ≡ end_after (executor.console w).system side.steps state

  -- What an answer leaves of the events that were to come: there was none; or an event, which is of a step at this
  -- place, was the first of them, and the others are still to come.
  abbrev pub Leaves : Side C → ℕ → List Placed → RunEnd → Option Event → Type 0
  Leaves now at coming end None = (coming ≡ []) × Coming now [] end
  Leaves now at coming end (Some event) =
      (rest : List Placed) × (coming ≡ record { at = at; event = event_of event } ∷ rest) × Coming now rest end
