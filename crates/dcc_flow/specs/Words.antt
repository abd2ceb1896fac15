-- How words of 64 bits keep a list of truth values. No public contract rests on it.
use Rattle.std.specs.Prelude.{◌≡◌, ℕ, ◌/◌, ◌%◌, ◌^◌, ◌<◌, ◌≤◌, ◌==◌, Bool, true, false, List, map, length, get_or, All}
use Rattle.std.specs.Prelude.{bit_and, bit_or}
use Rattle.std.specs.Int.{w64, bit_at, bit_not}
use Rattle.std.specs.List.{range_with_len}
use Rattle.dcc_flow.specs.Bits.{words_for}

-- the bit at the place, the lowest of a word first
abbrev pub bit_in : List ℕ → ℕ → Bool
bit_in words place = bit_at (get_or words (place / 64) 0) (place % 64) == 1

-- the first bits
abbrev pub bits_in : List ℕ → ℕ → List Bool
bits_in words len = map (bit_in words) (range_with_len 0 len)

-- there are as many words as so many bits need, and no further bit is set
pub record AreWords (words : List ℕ) (len : ℕ) : Type 0 where
  pub count : length words ≡ words_for len
  pub fits : All (λ word. word < 2 ^ 64) words
  pub clear : (place : ℕ) → len ≤ place → bit_in words place ≡ false

-- the bits of the first word, with those of `used`, and those of `out` that `written` has not
abbrev pub flowed_word : ℕ → ℕ → ℕ → ℕ → ℕ
flowed_word word used out written = bit_or (bit_or word used) (bit_and out (bit_not w64 written))

-- the words after each has taken the bits of `used`, and those of `out` that `written` has not
abbrev pub flowed_words : List ℕ → List ℕ → List ℕ → List ℕ → List ℕ
flowed_words words used out written =
    map (λ k. flowed_word (get_or words k 0) (get_or used k 0) (get_or out k 0) (get_or written k 0))
    (range_with_len 0 (length words))

-- the first bit from a place on that is set
pub record IsNextSet (words : List ℕ) (from place : ℕ) : Type 0 where
  pub after : from ≤ place
  pub there : bit_in words place ≡ true
  pub between : (k : ℕ) → from ≤ k → k < place → bit_in words k ≡ false

-- no bit from a place on is set
abbrev pub AreNoneSet : List ℕ → ℕ → Type 0
AreNoneSet words from = (k : ℕ) → from ≤ k → bit_in words k ≡ false
