-- Sums and products of signed operands are exact in 64 bits.
use Rattle.std.proofs.Common.{FitsSigned, to_z-of_z, arith, ◌≡◌, Bool, true, false, w64, ℤ, pos, neg_ℤ, ◌+ℤ◌, ◌-ℤ◌, ◌≤ℤ◌, ◌<ℤ◌, to_z, of_z}
use Rattle.std.specs.Int.{from_bool}
use Rattle.std.proofs.lemmas.Int.{ints}

-- a number of 16 bits in two's complement
pub record IsSmall (z : ℤ) : Type 0 where
  pub low : neg_ℤ (pos 32768) ≤ℤ z
  pub high : z <ℤ pos 32768

pub small_fits : {z : ℤ} → IsSmall z → FitsSigned w64 z
small_fits {z} p = omega (arith, ints)

-- a number of 16 bits in two's complement passes through the 64 bits as it is
pub small_passed : {z : ℤ} → IsSmall z → to_z w64 (of_z w64 z) ≡ z
small_passed {z} p = to_z-of_z (small_fits p)

-- what the code computes for a sum
pub sum_passed : (x y : ℤ) (carry : Bool) → IsSmall x → IsSmall y
    → to_z w64 (of_z w64 (to_z w64 (of_z w64 (to_z w64 (of_z w64 x) +ℤ to_z w64 (of_z w64 y))) +ℤ to_z w64 (of_z w64 (pos (from_bool carry)))))
    ≡ x +ℤ y +ℤ pos (from_bool carry)
sum_passed x y true p q = omega (arith, ints)
sum_passed x y false p q = omega (arith, ints)

-- what the code computes for a difference
pub difference_passed : (x y : ℤ) (borrow : Bool) → IsSmall x → IsSmall y
    → to_z w64 (of_z w64 (to_z w64 (of_z w64 (to_z w64 (of_z w64 x) -ℤ to_z w64 (of_z w64 y))) -ℤ to_z w64 (of_z w64 (pos (from_bool borrow)))))
    ≡ x -ℤ y -ℤ pos (from_bool borrow)
difference_passed x y true p q = omega (arith, ints)
difference_passed x y false p q = omega (arith, ints)
