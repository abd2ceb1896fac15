-- What passes between a run and its console.
use Rattle.std.specs.Prelude.{ℕ, List, [], ◌∷◌, map, flat_map}

-- an event at the console
pub data Event : Type 0 where
  -- this byte was written
  Wrote : ℕ → Event
  -- this byte of the input was taken
  Took : ℕ → Event
  -- a byte was asked for, and the input had ended
  MetEnd : Event

-- the byte that an event writes, and the one that it takes, as lists of at most one
abbrev pub byte_written : Event → List ℕ
byte_written (Wrote byte) = byte ∷ []
byte_written _ = []

abbrev pub byte_taken : Event → List ℕ
byte_taken (Took byte) = byte ∷ []
byte_taken _ = []

-- the output of these events, and what they take of the input
abbrev pub written_by : List Event → List ℕ
written_by events = flat_map byte_written events

abbrev pub taken_by : List Event → List ℕ
taken_by events = flat_map byte_taken events

-- the bytes are written, one after another
abbrev pub writes : List ℕ → List Event
writes bytes = map Wrote bytes
