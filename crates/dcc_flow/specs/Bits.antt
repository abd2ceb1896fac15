-- Lists of truth values, and how they flow.
use Rattle.std.specs.Prelude.{◌≡◌, ℕ, ◌≤◌, ◌<◌, ◌+◌, ◌/◌, Bool, true, false, ◌&&◌, ◌||◌, not, List, [], ◌∷◌, map, length, get_or}
use Rattle.std.specs.List.{range_with_len}

-- how many 64-bit words so many bits need
abbrev pub words_for : ℕ → ℕ
words_for len = (len + 63) / 64

-- the value at the place
abbrev pub bit : List Bool → ℕ → Bool
bit bits place = get_or bits place false

-- true where it was true, or `used` is, or `out` is and `written` is not
abbrev pub flowed : List Bool → List Bool → List Bool → List Bool → List Bool
flowed bits used out written =
    map (λ i. bit bits i || bit used i || (bit out i && not (bit written i))) (range_with_len 0 (length bits))

-- the two values differ
abbrev pub is_other : Bool → Bool → Bool
is_other true b = not b
is_other false b = b

-- some place of the two lists has different values
abbrev pub differ : List Bool → List Bool → Bool
differ [] [] = false
differ (x ∷ xs) (y ∷ ys) = is_other x y || differ xs ys
differ xs ys = true

-- the first place from one on that holds true
pub record IsNext (bits : List Bool) (from place : ℕ) : Type 0 where
  pub after : from ≤ place
  pub within : place < length bits
  pub there : bit bits place ≡ true
  pub between : (k : ℕ) → from ≤ k → k < place → bit bits k ≡ false

-- no place from one on holds true
abbrev pub AreNoneFrom : List Bool → ℕ → Type 0
AreNoneFrom bits from = (k : ℕ) → from ≤ k → bit bits k ≡ false
