-- The code's signed quotients are those of the definition.
use Rattle.std.proofs.Common.{arith, ◌≡◌, ◌∙◌, ap, sym, refl, ℕ, zero, suc, ◌/◌, ◌^◌, ◌≤◌, ◌<◌, w64, ℤ, pos, negsuc, neg_ℤ, to_z, of_z, FitsSigned, to_z-of_z, Bool, true, false, nat_eq, subst}
use Rattle.std.proofs.Math.Nat.{div-le_self}
use Rattle.std.specs.Prelude.{unsigned_abs, int_div, int_rem, Some}
use Rattle.std.proofs.lemmas.Int.{fits_signed_from_abs, quot_is, rem_is}
use Rattle.std.proofs.lemmas.Bool.Decides.{nat_tests}
use Rattle.dcc_num.specs.declared.Width.{Width}
use Rattle.dcc_num.specs.declared.Width.TheVariants.{Byte, Word}
use Rattle.dcc_num.specs.Numbers.{limit_of, signed_of, fits_signed, wrapped_of}
use Rattle.dcc_num.specs.Quotient.{signed_division_of, signed_joined_of}
use Rattle.dcc_num.proofs.Exact.{IsSmall, small_fits, small_passed}

abs_neg : (n : ℕ) → unsigned_abs (neg_ℤ (pos n)) ≡ n
abs_neg zero = refl
abs_neg (suc n) = refl

-- a quotient is no larger than its dividend
quotient_abs : (a d : ℤ) → unsigned_abs (int_div a d) ≤ unsigned_abs a
quotient_abs (pos a) (pos b) = div-le_self a b
quotient_abs (pos a) (negsuc b) = rw (abs_neg (a / suc b)) (div-le_self a (suc b))
quotient_abs (negsuc a) (pos b) = rw (abs_neg (suc a / b)) (div-le_self (suc a) b)
quotient_abs (negsuc a) (negsuc b) = div-le_self (suc a) (suc b)

-- a divisor that is not 0 stands for a number that is not 0
pub signed_nonzero : (w : Width) (a : ℕ) → a < limit_of w → (a ≡ 0 → ⊥) → 0 < of_z w64 (signed_of w a)
unfolding signed_of
signed_nonzero Byte a small some = grind (arith, nat_tests)
signed_nonzero Word a small some = grind (arith, nat_tests)

-- a dividend of two operands fits
pub dividend_fits : (z : ℤ) → unsigned_abs z ≤ 2 ^ 31 → FitsSigned w64 z
dividend_fits z size = fits_signed_from_abs w64 z (omega arith)

quotient_fits : (z d : ℤ) → unsigned_abs z ≤ 2 ^ 31 → FitsSigned w64 (int_div z d)
quotient_fits z d size = let h = quotient_abs z d in fits_signed_from_abs w64 (int_div z d) (omega arith)

-- the code's division is defined
pub can_divide : (z d : ℤ) → unsigned_abs z ≤ 2 ^ 31 → IsSmall d → FitsSigned w64 (int_div (to_z w64 (of_z w64 z)) (to_z w64 (of_z w64 d)))
can_divide z d size p =
    subst (λ (x : ℤ). FitsSigned w64 (int_div x (to_z w64 (of_z w64 d)))) (sym (to_z-of_z (dividend_fits z size)))
    (subst (λ (x : ℤ). FitsSigned w64 (int_div z x)) (sym (small_passed p)) (quotient_fits z d size))

-- the code's division gives the quotient and the remainder
quotient_passed : (z d : ℤ) → unsigned_abs z ≤ 2 ^ 31 → IsSmall d
    → to_z w64 (of_z w64 (int_div (to_z w64 (of_z w64 z)) (to_z w64 (of_z w64 d)))) ≡ int_div z d
quotient_passed z d size p = quot_is w64 z d (dividend_fits z size) (small_fits p) (quotient_fits z d size)

remainder_passed : (z d : ℤ) → unsigned_abs z ≤ 2 ^ 31 → IsSmall d
    → to_z w64 (of_z w64 (int_rem (to_z w64 (of_z w64 z)) (to_z w64 (of_z w64 d)))) ≡ int_rem z d
remainder_passed z d size p = rem_is w64 z d (dividend_fits z size) (small_fits p)

division_given : (w : Width) (high low by : ℕ) → (by ≡ 0 → ⊥) → fits_signed w (int_div (signed_joined_of w high low) (signed_of w by)) ≡ true
    → Some (wrapped_of w (int_div (signed_joined_of w high low) (signed_of w by)), wrapped_of w (int_rem (signed_joined_of w high low) (signed_of w by)))
    ≡ signed_division_of w high low by
unfolding signed_division_of
division_given w high low by some fits = let divides : nat_eq by 0 ≡ false = grind (arith, nat_tests) in rw (divides, fits)

pub division_computed : (w : Width) (high low by q r : ℕ) (z d : ℤ) (ok : Bool)
    → z ≡ signed_joined_of w high low → d ≡ signed_of w by → unsigned_abs z ≤ 2 ^ 31 → IsSmall d → (by ≡ 0 → ⊥)
    → ok ≡ fits_signed w (to_z w64 (of_z w64 (int_div (to_z w64 (of_z w64 z)) (to_z w64 (of_z w64 d))))) → ok ≡ true
    → q ≡ wrapped_of w (to_z w64 (of_z w64 (int_div (to_z w64 (of_z w64 z)) (to_z w64 (of_z w64 d)))))
    → r ≡ wrapped_of w (to_z w64 (of_z w64 (int_rem (to_z w64 (of_z w64 z)) (to_z w64 (of_z w64 d)))))
    → Some (q, r) ≡ signed_division_of w high low by
division_computed w high low by q r z d ok ez ed size p some eok given eq er =
    let joined : ℤ = signed_joined_of w high low in
    let divisor : ℤ = signed_of w by in
    let quotient : int_div z d ≡ int_div joined divisor = ap (λ (x : ℤ). int_div x d) ez ∙ ap (int_div joined) ed in
    let remainder : int_rem z d ≡ int_rem joined divisor = ap (λ (x : ℤ). int_rem x d) ez ∙ ap (int_rem joined) ed in
    let fits : fits_signed w (int_div joined divisor) ≡ true = sym (ap (fits_signed w) (quotient_passed z d size p ∙ quotient)) ∙ sym eok ∙ given in
    let first : q ≡ wrapped_of w (int_div joined divisor) = eq ∙ ap (wrapped_of w) (quotient_passed z d size p ∙ quotient) in
    let second : r ≡ wrapped_of w (int_rem joined divisor) = er ∙ ap (wrapped_of w) (remainder_passed z d size p ∙ remainder) in
    ap (λ (k : ℕ). Some (k, r)) first ∙ ap (λ (k : ℕ). Some (wrapped_of w (int_div joined divisor), k)) second ∙ division_given w high low by some fits
