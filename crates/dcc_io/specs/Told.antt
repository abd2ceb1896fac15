-- What an outside object tells of its content: Some of it, or None where it tells nothing.
use Rattle.std.specs.Prelude.{◌≡◌, ℕ, ◌<◌, List, ◌++◌, length, take, Option, None, Some}

-- where the content of an object is told, the predicate holds of it
abbrev pub WhenTold : {T : Type 0} → Option T → (T → Type 0) → Type 0
WhenTold {T} told P = (content : T) → told ≡ Some content → P content

-- the bytes that were told, with more after them
unfoldable pub append_told : Option (List ℕ) → List ℕ → Option (List ℕ)
append_told None bytes = None
append_told (Some held) bytes = Some (held ++ bytes)

-- some bytes, and then those that are told
unfoldable pub prepend_told : List ℕ → Option (List ℕ) → Option (List ℕ)
prepend_told bytes None = None
prepend_told bytes (Some rest) = Some (bytes ++ rest)

-- a part of the piece, and not all of it, was appended
pub record AppendsProperPrefix (old new : Option (List ℕ)) (piece : List ℕ) : Type 0 where
  pub count : ℕ
  pub proper : count < length piece
  pub appended : new ≡ append_told old (take count piece)
