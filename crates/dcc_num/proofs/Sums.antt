-- The code's sums and differences are those of the definitions.
use Rattle.std.proofs.Common.{◌≡◌, ◌∙◌, ap, ℕ, ◌+◌, ◌-◌, ◌%◌, Bool, not, nat_le, nat_lt, w64, ℤ, pos, ◌+ℤ◌, ◌-ℤ◌, to_z, of_z}
use Rattle.std.specs.Int.{from_bool}
use Rattle.dcc_num.specs.declared.Width.{Width}
use Rattle.dcc_num.specs.declared.Flags.{Flags}
use Rattle.dcc_num.specs.Numbers.{limit_of, signed_of, fits_signed, result_flags}
use Rattle.dcc_num.specs.Sum.{sum_of, difference_of}
use Rattle.dcc_num.proofs.Exact.{IsSmall, sum_passed, difference_passed}

pub sum_computed : (w : Width) (a b : ℕ) (carry : Bool) (p q r l m : ℕ) (x y k : ℤ) (ok : Bool) (f : Flags)
    → p ≡ a → q ≡ b → r ≡ from_bool carry → l ≡ limit_of w → m ≡ limit_of w
    → x ≡ signed_of w a → y ≡ signed_of w b → k ≡ pos (from_bool carry) → IsSmall x → IsSmall y
    → ok ≡ fits_signed w (to_z w64 (of_z w64 (to_z w64 (of_z w64 (to_z w64 (of_z w64 x) +ℤ to_z w64 (of_z w64 y))) +ℤ to_z w64 (of_z w64 k))))
    → f ≡ result_flags w ((p + q + r) % l) (nat_le m (p + q + r)) (not ok)
    → ((p + q + r) % l, f) ≡ sum_of w a b carry
unfolding sum_of
sum_computed w a b carry p q r l m x y k ok f ep eq er el em ex ey ek sx sy eok ef =
    let exact : fits_signed w (to_z w64 (of_z w64 (to_z w64 (of_z w64 (to_z w64 (of_z w64 x) +ℤ to_z w64 (of_z w64 y))) +ℤ to_z w64 (of_z w64 k)))) ≡ fits_signed w (x +ℤ y +ℤ pos (from_bool carry))
    = ap (λ (z : ℤ). fits_signed w (to_z w64 (of_z w64 (to_z w64 (of_z w64 (to_z w64 (of_z w64 x) +ℤ to_z w64 (of_z w64 y))) +ℤ to_z w64 (of_z w64 z))))) ek
    ∙ ap (fits_signed w) (sum_passed x y carry sx sy) in
    cc

pub difference_computed : (w : Width) (a b : ℕ) (borrow : Bool) (p q r s l m : ℕ) (x y k : ℤ) (ok : Bool) (f : Flags)
    → p ≡ a → q ≡ b → r ≡ from_bool borrow → s ≡ a → l ≡ limit_of w → m ≡ limit_of w
    → x ≡ signed_of w a → y ≡ signed_of w b → k ≡ pos (from_bool borrow) → IsSmall x → IsSmall y
    → ok ≡ fits_signed w (to_z w64 (of_z w64 (to_z w64 (of_z w64 (to_z w64 (of_z w64 x) -ℤ to_z w64 (of_z w64 y))) -ℤ to_z w64 (of_z w64 k))))
    → f ≡ result_flags w ((p + l - (q + r)) % m) (nat_lt s (q + r)) (not ok)
    → ((p + l - (q + r)) % m, f) ≡ difference_of w a b borrow
unfolding difference_of
difference_computed w a b borrow p q r s l m x y k ok f ep eq er es el em ex ey ek sx sy eok ef =
    let exact : fits_signed w (to_z w64 (of_z w64 (to_z w64 (of_z w64 (to_z w64 (of_z w64 x) -ℤ to_z w64 (of_z w64 y))) -ℤ to_z w64 (of_z w64 k)))) ≡ fits_signed w (x -ℤ y -ℤ pos (from_bool borrow))
    = ap (λ (z : ℤ). fits_signed w (to_z w64 (of_z w64 (to_z w64 (of_z w64 (to_z w64 (of_z w64 x) -ℤ to_z w64 (of_z w64 y))) -ℤ to_z w64 (of_z w64 z))))) ek
    ∙ ap (fits_signed w) (difference_passed x y borrow sx sy) in
    cc
