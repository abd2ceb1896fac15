-- What the code's shifts leave.
use Rattle.std.proofs.Common.{arith, ◌≡◌, ◌∙◌, sym, ap, ℕ, suc, ◌+◌, ◌-◌, ◌*◌, ◌/◌, ◌%◌, ◌^◌, ◌<◌, ◌≤◌, min, add-zero, inl, inr, refl, ℤ, pos, negsuc, to_z, of_z, w64, subst, lit<}
use Rattle.std.proofs.lemmas.Nat.{pow_pos, pow-add, shl-shr, shr-shr, mod_low, shl_whole, div_below, mod_below, div-add-mod'}
use Rattle.std.proofs.Math.Nat.{div-eq_of_lt, div-le_self, pow-le-pow_right, mul-le-mul_right, mul_comm, mul-div-mul_right}
use Rattle.std.proofs.lemmas.Bool.{cases_lt}
use Rattle.dcc_num.specs.declared.Width.{Width}
use Rattle.dcc_num.specs.declared.Width.TheVariants.{Byte, Word}
use Rattle.dcc_num.specs.Numbers.{bits_of, limit_of, residue_of, halved_of}
use Rattle.dcc_num.proofs.Exact.{IsSmall, small_passed}
use Rattle.std.specs.Int.{int_rem_euclid}
use Rattle.std.specs.Int.Signed.{shr_z}
use Rattle.std.proofs.lemmas.Int.{ints}

-- nothing is left of a number that is shifted past the width, nor of the last bit that left
pub nothing_left : (a b k : ℕ) → b < k → (a * 2 ^ k % 2 ^ b ≡ 0) × (a * 2 ^ k / 2 ^ b % 2 ≡ 0)
nothing_left a b k h =
    let d : ℕ = k - suc b in
    let e : k ≡ d + 1 + b = omega arith in
    let p : 2 ^ k ≡ (2 ^ d * 2) * 2 ^ b = ap (λ n. 2 ^ n) e ∙ pow-add 2 (d + 1) b ∙ ap (λ x. x * 2 ^ b) (pow-add 2 d 1) in
    let q : a * 2 ^ k ≡ (a * 2 ^ d * 2) * 2 ^ b = rw p (omega arith) in
    let whole : a * 2 ^ d * 2 * 2 ^ b % 2 ^ b ≡ 0 = rw add-zero at (mod_low (a * 2 ^ d * 2) b 0 (pow_pos b)) in
    let even : a * 2 ^ d * 2 * 2 ^ b / 2 ^ b % 2 ≡ 0 = rw (shl-shr (a * 2 ^ d * 2) b) (omega arith) in
    (rw q whole, rw q even)

-- shifts by counts above the width may be taken as one of them: nothing is left, nor of the last bit that left
pub moved_far : (b a k : ℕ) → b < 17 → (a * 2 ^ min k 17 % 2 ^ b ≡ a * 2 ^ k % 2 ^ b) × (a * 2 ^ min k 17 / 2 ^ b % 2 ≡ a * 2 ^ k / 2 ^ b % 2)
moved_far b a k small = elim (cases_lt k 18) [
  | inl near ↦ let e : min k 17 ≡ k = omega arith in rw e (refl, refl)
  | inr far ↦
      let e : min k 17 ≡ 17 = omega arith in
      let beyond : b < k = omega arith in
      let x = nothing_left a b 17 small in
      let y = nothing_left a b k beyond in
      rw e (x.0 ∙ sym y.0, x.1 ∙ sym y.1)
]

-- the width is 16 bits at most
pub bits_small : (w : Width) → bits_of w < 17
bits_small Byte = omega arith
bits_small Word = omega arith

pub limit_small : (w : Width) (a : ℕ) → a < limit_of w → a < 2 ^ 16
limit_small Byte a h = omega arith
limit_small Word a h = omega arith

-- what the code computes for a shift to the left, p standing for a, n for the count and l for the limit
pub moved_up_is : (w : Width) (a k p n l : ℕ) → p ≡ a → n ≡ min k 17 → l ≡ limit_of w → a < limit_of w
    → (p * 2 ^ n % 2 ^ 64 % l ≡ a * 2 ^ k % limit_of w) × (p * 2 ^ n % 2 ^ 64 / l % 2 ≡ a * 2 ^ k / limit_of w % 2)
moved_up_is w a k p n l ep en el h =
    let whole : a * 2 ^ min k 17 % 2 ^ 64 ≡ a * 2 ^ min k 17 = shl_whole a 16 (min k 17) 64 (limit_small w a h) (omega arith) in
    let kept = moved_far (bits_of w) a k (bits_small w) in
    rw (ep, en, el) (rw whole kept)

-- a number of 16 bits moved down by n places, where n is the count or, past the width, 17
pub moved_down_is : (a k : ℕ) → a < 2 ^ 16 → 0 < k
    → (a / 2 ^ (min k 17 - 1) / 2 ≡ a / 2 ^ k) × (a / 2 ^ (min k 17 - 1) ≡ a / 2 ^ (k - 1))
moved_down_is a k small some = elim (cases_lt k 18) [
  | inl near ↦
      let e : min k 17 ≡ k = omega arith in
      let f : k - 1 + 1 ≡ k = omega arith in
      rw e (shr-shr a (k - 1) 1 ∙ ap (λ j. a / 2 ^ j) f, refl)
  | inr far ↦
      let e : min k 17 ≡ 17 = omega arith in
      let last : 2 ^ 16 ≤ 2 ^ (k - 1) = pow-le-pow_right (lit< tt) {i = 16} {j = k - 1} (omega arith) in
      let whole : 2 ^ 16 ≤ 2 ^ k = pow-le-pow_right (lit< tt) {i = 16} {j = k} (omega arith) in
      let x : a / 2 ^ 16 ≡ 0 = div-eq_of_lt small in
      let y : a / 2 ^ (k - 1) ≡ 0 = div-eq_of_lt (omega arith) in
      let z : a / 2 ^ k ≡ 0 = div-eq_of_lt (omega arith) in
      rw e (ap (λ n. n / 2) x ∙ sym z, x ∙ sym y)
]

-- what leaves at the top has room at the bottom
rotated_fits : (a c p : ℕ) → 0 < c → 0 < p → a < p * c → a * p % (c * p) + a * p / (c * p) < c * p
rotated_fits a c p some more small =
    let high : a * p / (c * p) ≡ a / c = mul-div-mul_right a c more in
    let below : a / c < p = div_below a c p some small in
    let parts : a * p / (c * p) * (c * p) + a * p % (c * p) ≡ a * p = div-add-mod' (a * p) (c * p) in
    let split : (a / c * c + a % c) * p ≡ a * p = ap (λ n. n * p) (div-add-mod' a c) in
    let left : a % c < c = mod_below a c some in
    let room : suc (a % c) * p ≤ c * p = mul-le-mul_right p left in
    let whole : a / c * (c * p) + a * p % (c * p) ≡ a * p = rw high at parts in
    let rest : a * p % (c * p) ≡ a % c * p = omega arith in
    rw (high, rest) (omega (arith, suc_times (a % c) p))
  where
    suc_times : (m n : ℕ) → suc m * n ≡ m * n + n
    suc_times m n = omega arith

pub rotated_below : (a b n : ℕ) → a < 2 ^ b → n ≤ b → a * 2 ^ n % 2 ^ b + a * 2 ^ n / 2 ^ b < 2 ^ b
rotated_below a b n small within =
    let e : b ≡ (b - n) + n = omega arith in
    let p : 2 ^ b ≡ 2 ^ (b - n) * 2 ^ n = ap (λ k. 2 ^ k) e ∙ pow-add 2 (b - n) n in
    let q : a < 2 ^ n * 2 ^ (b - n) = subst (λ (k : ℕ). a < k) (p ∙ mul_comm (2 ^ (b - n)) (2 ^ n)) small in
    rw p (rotated_fits a (2 ^ (b - n)) (2 ^ n) (pow_pos (b - n)) (pow_pos n) q)

-- what the code computes for a turn, p standing for a and l for the limit
pub rotated_is : (w : Width) (a n p l : ℕ) → p ≡ a → l ≡ limit_of w → a < limit_of w → n ≤ bits_of w
    → p * 2 ^ n % 2 ^ 64 % l + p * 2 ^ n % 2 ^ 64 / l < limit_of w
rotated_is w a n p l ep el h within =
    let small = bits_small w in
    let whole : a * 2 ^ n % 2 ^ 64 ≡ a * 2 ^ n = shl_whole a 16 n 64 (limit_small w a h) (omega arith) in
    rw (ep, el) (rw whole (rotated_below a (bits_of w) n h within))

-- what the code computes for a shift down, with p standing for the number and n for the places
pub moved_down_for : (a k p n : ℕ) → p ≡ a → n ≡ min k 17 → a < 2 ^ 16 → 0 < k
    → (p / 2 ^ (n - 1) / 2 ≡ a / 2 ^ k) × (p / 2 ^ (n - 1) ≡ a / 2 ^ (k - 1))
moved_down_for a k p n ep en small some = rw (ep, en) (moved_down_is a k small some)

-- a small number stays small where it is divided
halved_small : (z : ℤ) (m : ℕ) → IsSmall z → IsSmall (shr_z z m)
halved_small (pos a) m p = let h : a / m ≤ a = div-le_self a m in record { low = omega (arith, ints, p.low); high = omega (arith, ints, p.high) }
halved_small (negsuc a) m p = let h : a / m ≤ a = div-le_self a m in record { low = omega (arith, ints, p.low); high = omega (arith, ints, p.high) }

-- a signed number moved down by one place less than the count, and by one more
signed_down : (z : ℤ) (k : ℕ) → IsSmall z → 0 < k
    → (shr_z z (2 ^ (min k 17 - 1)) ≡ halved_of z (k - 1)) × (shr_z (shr_z z (2 ^ (min k 17 - 1))) 2 ≡ halved_of z k)
signed_down (pos a) k p some =
    let small : a < 2 ^ 16 = omega (arith, ints, p.high) in
    let moved = moved_down_is a k small some in
    (ap pos moved.1, ap pos moved.0)
signed_down (negsuc a) k p some =
    let small : a < 2 ^ 16 = omega (arith, ints, p.low) in
    let moved = moved_down_is a k small some in
    (ap negsuc moved.1, ap negsuc moved.0)

-- what the code computes for a signed operand, n standing for the places
pub signed_down_for : (z y : ℤ) (k n : ℕ) → y ≡ z → n ≡ min k 17 → IsSmall y → 0 < k
    → (to_z w64 (of_z w64 (shr_z (to_z w64 (of_z w64 y)) (2 ^ (n - 1)))) ≡ halved_of z (k - 1))
    × (to_z w64 (of_z w64 (shr_z (to_z w64 (of_z w64 (shr_z (to_z w64 (of_z w64 y)) (2 ^ (n - 1))))) 2)) ≡ halved_of z k)
signed_down_for z y k n ez en p some =
    let m : ℕ = 2 ^ (n - 1) in
    let first = small_passed p in
    let less = small_passed (halved_small y m p) in
    let last = small_passed (halved_small (shr_z y m) 2 (halved_small y m p)) in
    let step : to_z w64 (of_z w64 (shr_z (to_z w64 (of_z w64 y)) m)) ≡ shr_z y m = ap (λ (x : ℤ). to_z w64 (of_z w64 (shr_z x m))) first ∙ less in
    let both = signed_down y k p some in
    let places : shr_z y m ≡ shr_z y (2 ^ (min k 17 - 1)) = ap (λ (j : ℕ). shr_z y (2 ^ (j - 1))) en in (
      step ∙ places ∙ both.0 ∙ ap (λ (x : ℤ). halved_of x (k - 1)) ez,
      ap (λ (x : ℤ). to_z w64 (of_z w64 (shr_z x 2))) step ∙ last ∙ ap (λ (x : ℤ). shr_z x 2) places ∙ both.1 ∙ ap (λ (x : ℤ). halved_of x k) ez,
    )

-- the lowest bit of a signed number
pub parity_is : (z : ℤ) → of_z w64 (int_rem_euclid z (pos 2)) ≡ residue_of 2 z
parity_is (pos a) = refl
parity_is (negsuc a) = refl
