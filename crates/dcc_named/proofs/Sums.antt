-- Sums and differences whose low 16 bits count.
use Rattle.std.proofs.Common.{◌≡◌, ℕ, ◌+◌, ◌-◌, ◌*◌, ◌%◌, ◌^◌, ◌<◌, ◌≤◌, Bool, true, false, true≢false, refl, sym, ap, ◌∙◌, arith}
use Rattle.std.specs.Prelude.{nat_le, if◌then◌else◌}
use Rattle.std.proofs.lemmas.Bool.Decides.{nat_tests}
use Rattle.dcc_c.specs.declared.syntax.Base.{Base}
use Rattle.dcc_c.specs.declared.syntax.Base.TheVariants.{Schar, Uchar, Int, Uint, Long, Ulong}
use Rattle.dcc_c.specs.Types.{bits_of, common_type, extended_bits, wrapped_bits, convert}
use Rattle.dcc_c.specs.Arithmetic.{difference}
use Rattle.dcc_named.specs.Named.{offset_of}

-- the type has 16 bits or 32
abbrev pub is_wide : Base → Bool
is_wide Schar = false
is_wide Uchar = false
is_wide t = true

pub common-wide : (a b : Base) → is_wide (common_type a b) ≡ true
common-wide Schar Schar = refl
common-wide Schar _ = refl
common-wide Uchar Schar = refl
common-wide Uchar _ = refl
common-wide Int Schar = refl
common-wide Int _ = refl
common-wide Uint Schar = refl
common-wide Uint _ = refl
common-wide Long Schar = refl
common-wide Long _ = refl
common-wide Ulong Schar = refl
common-wide Ulong _ = refl

cut-16 : (t : Base) (n : ℕ) → is_wide t ≡ true → extended_bits t (n % 2 ^ bits_of t) % 65536 ≡ n % 65536
cut-16 Schar n wide = absurd (true≢false (sym wide))
cut-16 Uchar n wide = absurd (true≢false (sym wide))
cut-16 Int n wide = grind (arith, nat_tests)
cut-16 Uint n wide = grind (arith, nat_tests)
cut-16 Long n wide = grind (arith, nat_tests)
cut-16 Ulong n wide = grind (arith, nat_tests)

sum-in : (t : Base) (x y : ℕ) → is_wide t ≡ true → (x % 2 ^ bits_of t + y % 2 ^ bits_of t) % 65536 ≡ (y % 65536 + 1 * x) % 65536
sum-in Schar x y wide = absurd (true≢false (sym wide))
sum-in Uchar x y wide = absurd (true≢false (sym wide))
sum-in Int x y wide = omega arith
sum-in Uint x y wide = omega arith
sum-in Long x y wide = omega arith
sum-in Ulong x y wide = omega arith

difference-in : (t : Base) (x y : ℕ) → is_wide t ≡ true → (x % 2 ^ bits_of t + 2 ^ bits_of t - y % 2 ^ bits_of t) % 65536 ≡ ((65536 - y % 65536) % 65536 + 1 * x) % 65536
difference-in Schar x y wide = absurd (true≢false (sym wide))
difference-in Uchar x y wide = absurd (true≢false (sym wide))
difference-in Int x y wide = omega arith
difference-in Uint x y wide = omega arith
difference-in Long x y wide = omega arith
difference-in Ulong x y wide = omega arith

-- the low bits of a sum, as an address that moves by a number
pub sum-16 : (t : Base) (x y : ℕ) → is_wide t ≡ true → extended_bits t (wrapped_bits t (wrapped_bits t x + wrapped_bits t y)) % 65536 ≡ (y % 65536 + 1 * x) % 65536
sum-16 t x y wide = cut-16 t (x % 2 ^ bits_of t + y % 2 ^ bits_of t) wide ∙ sum-in t x y wide

pub difference-16 : (t : Base) (x y : ℕ) → is_wide t ≡ true → extended_bits t (difference t (wrapped_bits t x) (wrapped_bits t y)) % 65536 ≡ ((65536 - y % 65536) % 65536 + 1 * x) % 65536
difference-16 t x y wide =
    cut-16 t (x % 2 ^ bits_of t + 2 ^ bits_of t - y % 2 ^ bits_of t) wide ∙ difference-in t x y wide

-- Offsets.

below-16 : (n : ℕ) → n % 65536 < 65536
below-16 n = omega arith

pub offset-below : (n : ℕ) (type : Base) → offset_of n type < 65536
offset-below n type = below-16 (extended_bits type (wrapped_bits type n))

pub same-16 : (n : ℕ) → n < 65536 → n % 65536 ≡ n
same-16 n few = omega arith

-- so many bytes are counted by their number
pub counted-bits : (c : ℕ) → c < 65536 → (b : Bool) → nat_le c 32767 ≡ b → extended_bits (if b then Int else Uint) (wrapped_bits (if b then Int else Uint) c) ≡ c
counted-bits c few true small = grind (arith, nat_tests)
counted-bits c few false large = grind (arith, nat_tests)

pub moved-by : (at count here : ℕ) → at ≤ here → here < 65536 → count ≡ here - at → (at + 1 * count) % 65536 ≡ here
moved-by at count here before few is = omega arith
