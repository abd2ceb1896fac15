-- The bytes of a frame that belong together, as a list. This stands between the definitions and the code; no public
-- contract rests on it.
use Rattle.std.specs.Prelude.{ℕ, ◌*◌, ℤ, pos, ◌+ℤ◌, ◌-ℤ◌, Bool, List, [], ◌∷◌, ◌++◌, map, Option, Some, None}
use Rattle.std.specs.List.{flat_map, range_with_len}
use Rattle.dcc_frames.specs.declared.bytes.Bytes.{Bytes}
use Rattle.dcc_frames.specs.declared.bytes.Piece.{Piece}
use Rattle.dcc_frames.specs.declared.steps.Step.{Step}
use Rattle.dcc_frames.specs.declared.body.Body.{Body}
use Rattle.dcc_frames.specs.Used.{access_of, word_at, moved_of}
use Rattle.dcc_frames.specs.Inside.{passed_of}

-- the piece of bytes that an instruction uses, if there are any
abbrev pub piece_of : Option Bytes → ℕ → List Piece
piece_of None user = []
piece_of (Some bytes) user = (record { bytes = bytes; user = Some user }) ∷ []

-- the word with this number from an offset on
abbrev pub word_from : ℤ → Option ℕ → ℕ → Piece
word_from first user number = record { bytes = word_at (first +ℤ pos (2 * number)); user = user }

-- a number of words from an offset on
abbrev pub words_from : ℤ → ℕ → Option ℕ → List Piece
words_from first count user = map (word_from first user) (range_with_len 0 count)

-- all that an instruction uses together
abbrev pub used_by : Bool → (ℕ → Option ℕ) → Step → List Piece
used_by framed counts step =
    piece_of (moved_of framed step.op step.height) step.at
    ++ (piece_of (access_of framed step.op) step.at
    ++ words_from (pos 2 -ℤ pos step.height) (passed_of counts step.op) (Some step.at))

-- the words of the arguments, and what each instruction uses
abbrev pub pieces_of : Body → (ℕ → Option ℕ) → List Piece
pieces_of body counts =
    words_from (pos 4) body.args None ++ flat_map (used_by body.framed counts) body.steps.items
