-- Numbers read with a sign.
use Rattle.std.proofs.Common.{◌≡◌, ℕ, ◌+◌, ◌-◌, ◌%◌, ◌^◌, ◌<◌, ◌≤◌, inl, inr, refl, arith, pos, negsuc}
use Rattle.std.specs.Prelude.{if◌then◌else◌, nat_le}
use Rattle.std.proofs.lemmas.Bool.{cases_lt}
use Rattle.std.proofs.lemmas.Bool.Decides.{nat_tests}
use Rattle.dcc_ir.specs.Value.{signed_at}
use Rattle.dcc_c.specs.declared.syntax.Base.{Base}
use Rattle.dcc_c.specs.declared.syntax.Base.TheVariants.{Schar, Int, Long}
use Rattle.dcc_c.specs.Types.{bits_of, promoted_type, convert}
use Rattle.dcc_text.proofs.Sizes.{Size, bit, byte, word, long, bits}

-- the type of such a reading, and its bits
abbrev pub reading_type : Size → Base
reading_type bit = Int
reading_type byte = Schar
reading_type word = Int
reading_type long = Long

abbrev pub reading_bits : Size → ℕ → ℕ
reading_bits bit n = (65536 - n) % 65536
reading_bits size n = n

-- the type in which operators reckon on it, and its bits there
abbrev pub signed_reckons : Size → Base
signed_reckons long = Long
signed_reckons size = Int

abbrev pub signed_bits : Size → ℕ → ℕ
signed_bits size n = if nat_le (2 ^ (bits size - 1)) n then n + (2 ^ bits_of (signed_reckons size) - 2 ^ bits size) else n

pub promoted-reading : (size : Size) → promoted_type (reading_type size) ≡ signed_reckons size
promoted-reading bit = refl
promoted-reading byte = refl
promoted-reading word = refl
promoted-reading long = refl

-- the reading where operators reckon
pub reading-converted : (size : Size) (n : ℕ) → n < 2 ^ bits size → convert (reading_type size) (signed_reckons size) (reading_bits size n) ≡ signed_bits size n
reading-converted bit n fits = grind (arith, nat_tests)
reading-converted byte n fits = grind (arith, nat_tests)
reading-converted word n fits = grind (arith, nat_tests)
reading-converted long n fits = grind (arith, nat_tests)

-- Where the number is below half of those of its size it stands for itself, else for one below 0.
pub data Sign (size : Size) (n : ℕ) : Type 0 where
  positive : n < 2 ^ (bits size - 1) → signed_at (bits size) n ≡ pos n → signed_bits size n ≡ n → Sign size n
  negative : 2 ^ (bits size - 1) ≤ n → signed_at (bits size) n ≡ negsuc (2 ^ bits size - 1 - n) → signed_bits size n ≡ n + (2 ^ bits_of (signed_reckons size) - 2 ^ bits size) → Sign size n

pub sign-of : (size : Size) (n : ℕ) → n < 2 ^ bits size → Sign size n
sign-of bit n fits = elim (cases_lt n 1) [
  | inl low ↦ positive low (grind (arith, nat_tests)) (grind (arith, nat_tests))
  | inr high ↦ negative high (grind (arith, nat_tests)) (grind (arith, nat_tests))
]
sign-of byte n fits = elim (cases_lt n 128) [
  | inl low ↦ positive low (grind (arith, nat_tests)) (grind (arith, nat_tests))
  | inr high ↦ negative high (grind (arith, nat_tests)) (grind (arith, nat_tests))
]
sign-of word n fits = elim (cases_lt n 32768) [
  | inl low ↦ positive low (grind (arith, nat_tests)) (grind (arith, nat_tests))
  | inr high ↦ negative high (grind (arith, nat_tests)) (grind (arith, nat_tests))
]
sign-of long n fits = elim (cases_lt n 2147483648) [
  | inl low ↦ positive low (grind (arith, nat_tests)) (grind (arith, nat_tests))
  | inr high ↦ negative high (grind (arith, nat_tests)) (grind (arith, nat_tests))
]

-- a signed char that holds a byte, as an int
pub schar-signed : (n : ℕ) → n < 256 → convert Schar Int n ≡ signed_bits byte n
schar-signed n fits = grind (arith, nat_tests)
