-- The extents of pieces of a frame: pieces that overlap, joined. This stands between the definitions and the code; no
-- public contract rests on it.
use Rattle.std.specs.Prelude.{◌≡◌, ℕ, ℤ, ◌≤ℤ◌, ◌<ℤ◌, int_lt, if◌then◌else◌, List, [], ◌∷◌, ◌++◌, All, AllPairs}
use Rattle.std.specs.Prelude.{Contains, Option, Some, None}
use Rattle.std.specs.Int.{int_max}
use Rattle.dcc_frames.specs.declared.bytes.Bytes.{Bytes}
use Rattle.dcc_frames.specs.declared.bytes.Piece.{Piece}

-- one of the pieces has bytes on both sides of the offset
pub record IsCrossedIn (pieces : List Piece) (offset : ℤ) : Type 0 where
  pub piece : Piece
  pub among : Contains pieces piece
  pub before : piece.bytes.first <ℤ offset
  pub after : offset <ℤ piece.bytes.end

-- an extent of the pieces
pub record IsExtentIn (pieces : List Piece) (extent : Bytes) : Type 0 where
  pub piece : Piece
  pub among : Contains pieces piece
  pub begins : piece.bytes.first ≡ extent.first
  pub ends : extent.first <ℤ extent.end
  pub joined : (offset : ℤ) → extent.first <ℤ offset → offset <ℤ extent.end → IsCrossedIn pieces offset
  pub apart_before : ¬ IsCrossedIn pieces extent.first
  pub apart_after : ¬ IsCrossedIn pieces extent.end

-- the piece lies in the bytes
pub record LiesIn (piece extent : Bytes) : Type 0 where
  pub from : extent.first ≤ℤ piece.first
  pub to : piece.end ≤ℤ extent.end

-- the piece lies in one of the extents, which has a user if the piece has one
pub record IsHeld (extents : List Piece) (piece : Piece) : Type 0 where
  pub extent : Piece
  pub among : Contains extents extent
  pub lies : LiesIn piece.bytes extent.bytes
  pub user : (at : ℕ) → piece.user ≡ Some at → (other : ℕ) × (extent.user ≡ Some other)

-- a piece in the bytes has this user
pub record HasUserIn (pieces : List Piece) (extent : Bytes) (at : ℕ) : Type 0 where
  pub piece : Piece
  pub among : Contains pieces piece
  pub lies : LiesIn piece.bytes extent
  pub user_is : piece.user ≡ Some at

-- just the extents of the pieces, in ascending order
pub record AreExtents (pieces extents : List Piece) : Type 0 where
  pub each : (extent : Piece) → Contains extents extent → IsExtentIn pieces extent.bytes
  pub ascending : AllPairs (λ (a b : Piece). a.bytes.end ≤ℤ b.bytes.first) extents
  pub every : (piece : Piece) → Contains pieces piece → IsHeld extents piece
  pub used : (extent : Piece) → Contains extents extent → (at : ℕ) → extent.user ≡ Some at
      → HasUserIn pieces extent.bytes at

-- pieces with bytes that ascend by their first ones
pub record AreAscending (pieces : List Piece) : Type 0 where
  pub order : AllPairs (λ (a b : Piece). a.bytes.first ≤ℤ b.bytes.first) pieces
  pub some : All (λ (piece : Piece). piece.bytes.first <ℤ piece.bytes.end) pieces

-- the first user, else the second
abbrev pub user_of : Option ℕ → Option ℕ → Option ℕ
user_of None second = second
user_of (Some at) second = Some at

-- an extent with a piece that overlaps it and begins no earlier
abbrev pub extent_with : Piece → Piece → Piece
extent_with extent piece = record {
  bytes = record { first = extent.bytes.first; end = int_max extent.bytes.end piece.bytes.end };
  user = user_of extent.user piece.user;
}

-- the extents, where the last one is apart
abbrev pub with_last : List Piece → Option Piece → List Piece
with_last extents None = extents
with_last extents (Some last) = extents ++ last ∷ []

-- the extents with one more piece, which begins no earlier than the others
abbrev pub joined_to : List Piece → Option Piece → Piece → List Piece
joined_to extents None piece = extents ++ piece ∷ []
joined_to extents (Some last) piece =
    if int_lt piece.bytes.first last.bytes.end then extents ++ extent_with last piece ∷ []
    else (extents ++ last ∷ []) ++ piece ∷ []
