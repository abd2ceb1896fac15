-- Low bits of values, and of what operators make of them.
use Rattle.std.proofs.Common.{◌≡◌, ℕ, ◌+◌, ◌-◌, ◌*◌, ◌%◌, ◌^◌, ◌<◌, ◌≤◌, Bool, true, false, true≢false, refl, sym, ap, ap₂, ◌∙◌, arith}
use Rattle.std.specs.Prelude.{bit_and, bit_or, bit_xor, nat_le, ◌||◌, if◌then◌else◌}
use Rattle.std.proofs.lemmas.Bool.Decides.{nat_tests}
use Rattle.std.proofs.lemmas.Nat.{and_mod, or_mod, xor_mod, mul-mod, pow-add}
use Rattle.std.proofs.Math.Nat.{add-mod, mul-mod_left, mul_assoc, mod-mod}
use Rattle.std.proofs.lemmas.Bool.{leb-true, leb-false}
use Rattle.dcc_c.specs.declared.syntax.Base.{Base}
use Rattle.dcc_c.specs.declared.syntax.Base.TheVariants.{Schar, Uchar, Int, Uint, Long, Ulong}
use Rattle.dcc_c.specs.Types.{bits_of, extended_bits, wrapped_bits, is_negative, number_of_type}
use Rattle.dcc_c.specs.Arithmetic.{negated, complement, difference, shifted_left}
use Rattle.dcc_c.specs.Value.{Value}

-- how many low bits count
pub data Count : Type 0 where
  eight : Count
  sixteen : Count
  thirty_two : Count

abbrev pub of_count : Count → ℕ
of_count eight = 8
of_count sixteen = 16
of_count thirty_two = 32

-- the low bits of a value
abbrev pub low : ℕ → Value → ℕ
low bits v = extended_bits (number_of_type v.type) v.bits % 2 ^ bits

-- the bits of a type that has as many are not changed by its sign
pub cut-low : (c : Count) (t : Base) (n : ℕ) → of_count c ≤ bits_of t → extended_bits t (n % 2 ^ bits_of t) % 2 ^ of_count c ≡ n % 2 ^ of_count c
cut-low eight Schar n fits = grind (arith, nat_tests)
cut-low eight Uchar n fits = grind (arith, nat_tests)
cut-low eight Int n fits = grind (arith, nat_tests)
cut-low eight Uint n fits = grind (arith, nat_tests)
cut-low eight Long n fits = grind (arith, nat_tests)
cut-low eight Ulong n fits = grind (arith, nat_tests)
cut-low sixteen Schar n fits = absurd (omega (arith, fits))
cut-low sixteen Uchar n fits = absurd (omega (arith, fits))
cut-low sixteen Int n fits = grind (arith, nat_tests)
cut-low sixteen Uint n fits = grind (arith, nat_tests)
cut-low sixteen Long n fits = grind (arith, nat_tests)
cut-low sixteen Ulong n fits = grind (arith, nat_tests)
cut-low thirty_two Schar n fits = absurd (omega (arith, fits))
cut-low thirty_two Uchar n fits = absurd (omega (arith, fits))
cut-low thirty_two Int n fits = absurd (omega (arith, fits))
cut-low thirty_two Uint n fits = absurd (omega (arith, fits))
cut-low thirty_two Long n fits = grind (arith, nat_tests)
cut-low thirty_two Ulong n fits = grind (arith, nat_tests)

-- Types in which operators reckon, and counts of at most 16 bits.

-- the type has 16 bits or 32
abbrev pub is_wide : Base → Bool
is_wide Schar = false
is_wide Uchar = false
is_wide t = true

abbrev pub is_small : Count → Bool
is_small thirty_two = false
is_small c = true

mod-in : (c : Count) (t : Base) → is_small c ≡ true → is_wide t ≡ true → (n : ℕ) → n % 2 ^ bits_of t % 2 ^ of_count c ≡ n % 2 ^ of_count c
mod-in eight Schar small wide n = absurd (true≢false (sym wide))
mod-in eight Uchar small wide n = absurd (true≢false (sym wide))
mod-in eight Int small wide n = omega arith
mod-in eight Uint small wide n = omega arith
mod-in eight Long small wide n = omega arith
mod-in eight Ulong small wide n = omega arith
mod-in sixteen Schar small wide n = absurd (true≢false (sym wide))
mod-in sixteen Uchar small wide n = absurd (true≢false (sym wide))
mod-in sixteen Int small wide n = omega arith
mod-in sixteen Uint small wide n = omega arith
mod-in sixteen Long small wide n = omega arith
mod-in sixteen Ulong small wide n = omega arith
mod-in thirty_two Schar small wide n = absurd (true≢false (sym small))
mod-in thirty_two Uchar small wide n = absurd (true≢false (sym small))
mod-in thirty_two Int small wide n = absurd (true≢false (sym small))
mod-in thirty_two Uint small wide n = absurd (true≢false (sym small))
mod-in thirty_two Long small wide n = absurd (true≢false (sym small))
mod-in thirty_two Ulong small wide n = absurd (true≢false (sym small))

pub within : (c : Count) (t : Base) → is_small c ≡ true → is_wide t ≡ true → of_count c ≤ bits_of t
within eight Schar small wide = absurd (true≢false (sym wide))
within eight Uchar small wide = absurd (true≢false (sym wide))
within eight Int small wide = omega arith
within eight Uint small wide = omega arith
within eight Long small wide = omega arith
within eight Ulong small wide = omega arith
within sixteen Schar small wide = absurd (true≢false (sym wide))
within sixteen Uchar small wide = absurd (true≢false (sym wide))
within sixteen Int small wide = omega arith
within sixteen Uint small wide = omega arith
within sixteen Long small wide = omega arith
within sixteen Ulong small wide = omega arith
within thirty_two Schar small wide = absurd (true≢false (sym small))
within thirty_two Uchar small wide = absurd (true≢false (sym small))
within thirty_two Int small wide = absurd (true≢false (sym small))
within thirty_two Uint small wide = absurd (true≢false (sym small))
within thirty_two Long small wide = absurd (true≢false (sym small))
within thirty_two Ulong small wide = absurd (true≢false (sym small))

difference-in : (c : Count) (t : Base) → is_small c ≡ true → is_wide t ≡ true → (x y : ℕ) → (x % 2 ^ bits_of t + 2 ^ bits_of t - y % 2 ^ bits_of t) % 2 ^ of_count c ≡ (x % 2 ^ of_count c + (2 ^ of_count c - y % 2 ^ of_count c)) % 2 ^ of_count c
difference-in eight Schar small wide x y = absurd (true≢false (sym wide))
difference-in eight Uchar small wide x y = absurd (true≢false (sym wide))
difference-in eight Int small wide x y = omega arith
difference-in eight Uint small wide x y = omega arith
difference-in eight Long small wide x y = omega arith
difference-in eight Ulong small wide x y = omega arith
difference-in sixteen Schar small wide x y = absurd (true≢false (sym wide))
difference-in sixteen Uchar small wide x y = absurd (true≢false (sym wide))
difference-in sixteen Int small wide x y = omega arith
difference-in sixteen Uint small wide x y = omega arith
difference-in sixteen Long small wide x y = omega arith
difference-in sixteen Ulong small wide x y = omega arith
difference-in thirty_two Schar small wide x y = absurd (true≢false (sym small))
difference-in thirty_two Uchar small wide x y = absurd (true≢false (sym small))
difference-in thirty_two Int small wide x y = absurd (true≢false (sym small))
difference-in thirty_two Uint small wide x y = absurd (true≢false (sym small))
difference-in thirty_two Long small wide x y = absurd (true≢false (sym small))
difference-in thirty_two Ulong small wide x y = absurd (true≢false (sym small))

negated-in : (c : Count) (t : Base) → is_small c ≡ true → is_wide t ≡ true → (x : ℕ) → (2 ^ bits_of t - x % 2 ^ bits_of t) % 2 ^ of_count c ≡ (2 ^ of_count c - x % 2 ^ of_count c) % 2 ^ of_count c
negated-in eight Schar small wide x = absurd (true≢false (sym wide))
negated-in eight Uchar small wide x = absurd (true≢false (sym wide))
negated-in eight Int small wide x = omega arith
negated-in eight Uint small wide x = omega arith
negated-in eight Long small wide x = omega arith
negated-in eight Ulong small wide x = omega arith
negated-in sixteen Schar small wide x = absurd (true≢false (sym wide))
negated-in sixteen Uchar small wide x = absurd (true≢false (sym wide))
negated-in sixteen Int small wide x = omega arith
negated-in sixteen Uint small wide x = omega arith
negated-in sixteen Long small wide x = omega arith
negated-in sixteen Ulong small wide x = omega arith
negated-in thirty_two Schar small wide x = absurd (true≢false (sym small))
negated-in thirty_two Uchar small wide x = absurd (true≢false (sym small))
negated-in thirty_two Int small wide x = absurd (true≢false (sym small))
negated-in thirty_two Uint small wide x = absurd (true≢false (sym small))
negated-in thirty_two Long small wide x = absurd (true≢false (sym small))
negated-in thirty_two Ulong small wide x = absurd (true≢false (sym small))

complement-in : (c : Count) (t : Base) → is_small c ≡ true → is_wide t ≡ true → (x : ℕ) → (2 ^ bits_of t - 1 - x % 2 ^ bits_of t) % 2 ^ of_count c ≡ 2 ^ of_count c - 1 - x % 2 ^ of_count c
complement-in eight Schar small wide x = absurd (true≢false (sym wide))
complement-in eight Uchar small wide x = absurd (true≢false (sym wide))
complement-in eight Int small wide x = omega arith
complement-in eight Uint small wide x = omega arith
complement-in eight Long small wide x = omega arith
complement-in eight Ulong small wide x = omega arith
complement-in sixteen Schar small wide x = absurd (true≢false (sym wide))
complement-in sixteen Uchar small wide x = absurd (true≢false (sym wide))
complement-in sixteen Int small wide x = omega arith
complement-in sixteen Uint small wide x = omega arith
complement-in sixteen Long small wide x = omega arith
complement-in sixteen Ulong small wide x = omega arith
complement-in thirty_two Schar small wide x = absurd (true≢false (sym small))
complement-in thirty_two Uchar small wide x = absurd (true≢false (sym small))
complement-in thirty_two Int small wide x = absurd (true≢false (sym small))
complement-in thirty_two Uint small wide x = absurd (true≢false (sym small))
complement-in thirty_two Long small wide x = absurd (true≢false (sym small))
complement-in thirty_two Ulong small wide x = absurd (true≢false (sym small))

complement-fits : (t : Base) → is_wide t ≡ true → (x : ℕ) → 2 ^ bits_of t - 1 - x % 2 ^ bits_of t ≡ (2 ^ bits_of t - 1 - x % 2 ^ bits_of t) % 2 ^ bits_of t
complement-fits Schar wide x = absurd (true≢false (sym wide))
complement-fits Uchar wide x = absurd (true≢false (sym wide))
complement-fits Int wide x = omega arith
complement-fits Uint wide x = omega arith
complement-fits Long wide x = omega arith
complement-fits Ulong wide x = omega arith

-- What operators make of numbers of a type, by the low bits of both.
module _ (c : Count) (t : Base) (small : is_small c ≡ true) (wide : is_wide t ≡ true) (x y : ℕ) where
  abbrev C : ℕ
  C = 2 ^ of_count c

  abbrev K : ℕ
  K = 2 ^ bits_of t

  pub sum-low : extended_bits t (wrapped_bits t (x % K + y % K)) % C ≡ (x % C + y % C) % C
  sum-low =
      cut-low c t (x % K + y % K) (within c t small wide) ∙ add-mod (x % K) (y % K) C
      ∙ ap₂ (λ a b. (a + b) % C) (mod-in c t small wide x) (mod-in c t small wide y)

  pub product-low : extended_bits t (wrapped_bits t (x % K * (y % K))) % C ≡ (x % C * (y % C)) % C
  product-low =
      cut-low c t (x % K * (y % K)) (within c t small wide) ∙ mul-mod (x % K) (y % K) C
      ∙ ap₂ (λ a b. (a * b) % C) (mod-in c t small wide x) (mod-in c t small wide y)

  pub difference-low : extended_bits t (difference t (x % K) (y % K)) % C ≡ (x % C + (C - y % C)) % C
  difference-low = cut-low c t (x % K + K - y % K) (within c t small wide) ∙ difference-in c t small wide x y

  pub and-low : extended_bits t (bit_and (x % K) (y % K)) % C ≡ bit_and (x % C) (y % C)
  and-low =
      ap (λ n. extended_bits t n % C) (sym (and_mod x y (bits_of t))) ∙ cut-low c t (bit_and x y) (within c t small wide) ∙ and_mod x y (of_count c)

  pub or-low : extended_bits t (bit_or (x % K) (y % K)) % C ≡ bit_or (x % C) (y % C)
  or-low =
      ap (λ n. extended_bits t n % C) (sym (or_mod x y (bits_of t))) ∙ cut-low c t (bit_or x y) (within c t small wide) ∙ or_mod x y (of_count c)

  pub xor-low : extended_bits t (bit_xor (x % K) (y % K)) % C ≡ bit_xor (x % C) (y % C)
  xor-low =
      ap (λ n. extended_bits t n % C) (sym (xor_mod x y (bits_of t))) ∙ cut-low c t (bit_xor x y) (within c t small wide) ∙ xor_mod x y (of_count c)

  pub negated-low : extended_bits t (negated t (x % K)) % C ≡ (C - x % C) % C
  negated-low = cut-low c t (K - x % K) (within c t small wide) ∙ negated-in c t small wide x

  pub complement-low : extended_bits t (complement t (x % K)) % C ≡ C - 1 - x % C
  complement-low =
      ap (λ n. extended_bits t n % C) (complement-fits t wide x) ∙ cut-low c t (K - 1 - x % K) (within c t small wide) ∙ complement-in c t small wide x

-- Shifts.

-- a number times a power that is no smaller has no low bits
high-power : (c k n : ℕ) → c ≤ k → n * 2 ^ k % 2 ^ c ≡ 0
high-power c k n less =
    let split : k ≡ (k - c) + c = omega arith in
    let power : n * 2 ^ k ≡ (n * 2 ^ (k - c)) * 2 ^ c = ap (λ j. n * 2 ^ j) split ∙ ap (λ m. n * m) (pow-add 2 (k - c) c) ∙ sym (mul_assoc n (2 ^ (k - c)) (2 ^ c)) in
    ap (λ m. m % 2 ^ c) power ∙ mul-mod_left (n * 2 ^ (k - c)) (2 ^ c)

-- what a left shift leaves of the low bits: none, where the count is below 0 or no less than they are
abbrev pub shift_low : ℕ → Base → ℕ → ℕ → ℕ
shift_low c of_count count x =
    if is_negative of_count count then 0 else (if nat_le c count then 0 else x * 2 ^ count % 2 ^ c)

zero-low : (c : Count) (t : Base) → is_small c ≡ true → is_wide t ≡ true → extended_bits t 0 % 2 ^ of_count c ≡ 0
zero-low eight Schar small wide = absurd (true≢false (sym wide))
zero-low eight Uchar small wide = absurd (true≢false (sym wide))
zero-low eight Int small wide = refl
zero-low eight Uint small wide = refl
zero-low eight Long small wide = refl
zero-low eight Ulong small wide = refl
zero-low sixteen Schar small wide = absurd (true≢false (sym wide))
zero-low sixteen Uchar small wide = absurd (true≢false (sym wide))
zero-low sixteen Int small wide = refl
zero-low sixteen Uint small wide = refl
zero-low sixteen Long small wide = refl
zero-low sixteen Ulong small wide = refl
zero-low thirty_two Schar small wide = absurd (true≢false (sym small))
zero-low thirty_two Uchar small wide = absurd (true≢false (sym small))
zero-low thirty_two Int small wide = absurd (true≢false (sym small))
zero-low thirty_two Uint small wide = absurd (true≢false (sym small))
zero-low thirty_two Long small wide = absurd (true≢false (sym small))
zero-low thirty_two Ulong small wide = absurd (true≢false (sym small))

module _ (c : Count) (t : Base) (small : is_small c ≡ true) (wide : is_wide t ≡ true) (x : ℕ) (of_count' : Base) (count : ℕ) where
  pub shift-low : extended_bits t (shifted_left t (x % 2 ^ bits_of t) of_count' count) % 2 ^ of_count c ≡ shift_low (of_count c) of_count' count (x % 2 ^ of_count c)
  shift-low = by (is_negative of_count' count)
    where
      past : (b d : Bool) → nat_le (bits_of t) count ≡ b → nat_le (of_count c) count ≡ d →
          extended_bits t (if b then 0 else wrapped_bits t (x % 2 ^ bits_of t * 2 ^ count)) % 2 ^ of_count c ≡ (if d then 0 else x % 2 ^ of_count c * 2 ^ count % 2 ^ of_count c)
      past true true is also = zero-low c t small wide
      past true false is also =
          let less : bits_of t ≤ count = leb-true (bits_of t) count is in
          let most = within c t small wide in
          let more : count < of_count c = leb-false (of_count c) count also in absurd (omega arith)
      past false true is also =
          cut-low c t (x % 2 ^ bits_of t * 2 ^ count) (within c t small wide) ∙ high-power (of_count c) count (x % 2 ^ bits_of t) (leb-true (of_count c) count also)
      past false false is also =
          cut-low c t (x % 2 ^ bits_of t * 2 ^ count) (within c t small wide)
          ∙ mul-mod (x % 2 ^ bits_of t) (2 ^ count) (2 ^ of_count c)
          ∙ ap (λ a. a * (2 ^ count % 2 ^ of_count c) % 2 ^ of_count c) (mod-in c t small wide x ∙ sym (mod-mod (x) (2 ^ of_count c)))
          ∙ sym (mul-mod (x % 2 ^ of_count c) (2 ^ count) (2 ^ of_count c))

      by : (n : Bool) → extended_bits t (if n || nat_le (bits_of t) count then 0 else wrapped_bits t (x % 2 ^ bits_of t * 2 ^ count)) % 2 ^ of_count c
          ≡ (if n then 0 else (if nat_le (of_count c) count then 0 else x % 2 ^ of_count c * 2 ^ count % 2 ^ of_count c))
      by true = zero-low c t small wide
      by false = past (nat_le (bits_of t) count) (nat_le (of_count c) count) refl refl
