-- The half of the numbers of so many bits beside a number of 32 bits.
use Rattle.std.proofs.Common.{◌≡◌, ℕ, zero, suc, ◌-◌, ◌*◌, ◌^◌, ◌<◌, ◌≤◌, inl, inr, arith}
use Rattle.std.proofs.lemmas.Bool.Decides.{leb_tells}
use Rattle.std.proofs.Math.Pow.{pow_mono}

-- the half of the numbers of more than 32 bits is above a number of 32 bits
pub wide_half : (width n : ℕ) → 32 < width → n < 2 ^ 32 → n < 2 ^ (width - 1)
wide_half width n wide small =
    let least : 32 ≤ width - 1 = omega arith in
    let big : 2 ^ 32 ≤ 2 ^ (width - 1) = pow_mono least in
    omega arith

-- a number of 32 bits above the half of the numbers of a width is of a width of at most 32 bits
pub narrow : (width n : ℕ) → n < 2 ^ 32 → 2 ^ (width - 1) < n → width ≤ 32
narrow width n small above = elim (leb_tells width 32) [
  | inl (is, few) ↦ few
  | inr (is, wide) ↦ let big = wide_half width n wide small in absurd (omega arith)
]

-- all are at most twice the half
pub twice : (width : ℕ) → 2 ^ width ≤ 2 * 2 ^ (width - 1)
twice zero = omega arith
twice (suc k) = let e : suc k - 1 ≡ k = omega arith in rw e (omega arith)
