-- What is left of numbers that are shifted by their width or more.
use Rattle.std.proofs.Common.{arith, ◌≡◌, ◌∙◌, refl, sym, ap, ℕ, ◌+◌, ◌-◌, ◌*◌, ◌/◌, ◌%◌, ◌^◌, ◌<◌, ◌≤◌, min, inl, inr, lit<, add-zero, ℤ, pos, negsuc, neg_ℤ, ◌≤ℤ◌, ◌<ℤ◌, FitsSigned, to_z, of_z, to_z-of_z, w64}
use Rattle.std.proofs.lemmas.Bool.{cases_lt}
use Rattle.std.proofs.lemmas.Int.{ints}
use Rattle.std.specs.Int.Signed.{shr_z}
use Rattle.std.proofs.lemmas.Nat.{pow_pos, pow-add, mod_low}
use Rattle.std.proofs.Math.Nat.{div-eq_of_lt, div-le_self, pow-le-pow_right}
use Rattle.dcc_num.specs.Numbers.{halved_of}

-- nothing is left at the top
pub all_out_up : (a width count : ℕ) → width ≤ count → 0 ≡ a * 2 ^ count % 2 ^ width
all_out_up a width count far =
    let d : ℕ = count - width in
    let e : count ≡ d + width = omega arith in
    let p : 2 ^ count ≡ 2 ^ d * 2 ^ width = ap (λ n. 2 ^ n) e ∙ pow-add 2 d width in
    let q : a * 2 ^ count ≡ a * 2 ^ d * 2 ^ width = rw p (omega arith) in
    let whole : a * 2 ^ d * 2 ^ width % 2 ^ width ≡ 0 = rw add-zero at (mod_low (a * 2 ^ d) width 0 (pow_pos width)) in
    sym (rw q whole)

-- nothing is left at the bottom of a number that is moved down by its width or more
pub all_out_down : (a width count : ℕ) → a < 2 ^ width → width ≤ count → 0 ≡ a / 2 ^ count
all_out_down a width count small far =
    let whole : 2 ^ width ≤ 2 ^ count = pow-le-pow_right (lit< tt) {i = width} {j = count} far in
    sym (div-eq_of_lt (omega arith))

-- a signed number moved down by 32 places or more
signed_out : (z : ℤ) (count : ℕ) → neg_ℤ (pos (2 ^ 32)) ≤ℤ z → z <ℤ pos (2 ^ 32) → 32 ≤ count → shr_z z (2 ^ 32) ≡ halved_of z count
signed_out (pos a) count low high far =
    let small : a < 2 ^ 32 = omega (arith, ints, high) in
    ap pos (sym (all_out_down a 32 32 small (omega arith)) ∙ all_out_down a 32 count small far)
signed_out (negsuc a) count low high far =
    let small : a < 2 ^ 32 = omega (arith, ints, low) in
    ap negsuc (sym (all_out_down a 32 32 small (omega arith)) ∙ all_out_down a 32 count small far)

near : (z : ℤ) (count : ℕ) → shr_z z (2 ^ count) ≡ halved_of z count
near (pos a) count = refl
near (negsuc a) count = refl

-- what the code computes for a signed number, n standing for the places
pub signed_down : (z y : ℤ) (count n : ℕ) → y ≡ z → n ≡ min count 32 → neg_ℤ (pos (2 ^ 32)) ≤ℤ y → y <ℤ pos (2 ^ 32) → shr_z y (2 ^ n) ≡ halved_of z count
signed_down z y count n e m low high = elim (cases_lt count 32) [
  | inl less ↦ let k : n ≡ count = omega arith in rw (k, e) (near z count)
  | inr more ↦ let k : n ≡ 32 = omega arith in ap (λ j. shr_z y (2 ^ j)) k ∙ signed_out y count low high more ∙ ap (λ x. halved_of x count) e
]

-- a number of at most 32 bits passes through 64 as it is, before it is moved down and after
pub signed_passed : (y : ℤ) (n : ℕ) → neg_ℤ (pos (2 ^ 32)) ≤ℤ y → y <ℤ pos (2 ^ 32) → to_z w64 (of_z w64 (shr_z (to_z w64 (of_z w64 y)) (2 ^ n))) ≡ shr_z y (2 ^ n)
signed_passed y n low high =
    let fits : FitsSigned w64 y = omega (arith, ints) in
    ap (λ x. to_z w64 (of_z w64 (shr_z x (2 ^ n)))) (to_z-of_z fits) ∙ to_z-of_z (moved y low high)
  where
    moved : (y : ℤ) → neg_ℤ (pos (2 ^ 32)) ≤ℤ y → y <ℤ pos (2 ^ 32) → FitsSigned w64 (shr_z y (2 ^ n))
    moved (pos a) low high = let h : a / 2 ^ n ≤ a = div-le_self a (2 ^ n) in omega (arith, ints, low, high)
    moved (negsuc a) low high = let h : a / 2 ^ n ≤ a = div-le_self a (2 ^ n) in omega (arith, ints, low, high)
