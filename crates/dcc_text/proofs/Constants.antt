-- Constants.
use Rattle.std.proofs.Common.{◌≡◌, ℕ, ◌-◌, ◌^◌, ◌<◌, inl, inr, Bool, true, false, refl, sym, ap, subst, arith, mod-eq_of_lt}
use Rattle.std.specs.Prelude.{◌==◌, nat_lt}
use Rattle.std.proofs.lemmas.Bool.{cases_Bool}
use Rattle.std.proofs.lemmas.Bool.Decides.{nat_tests}
use Rattle.dcc_c.specs.declared.syntax.Base.{Base}
use Rattle.dcc_c.specs.declared.syntax.Base.TheVariants.{Int, Uint, Long, Ulong}
use Rattle.dcc_c.specs.declared.syntax.CUn.TheVariants.{Minus}
use Rattle.dcc_c.specs.Types.{bits_of, convert}
use Rattle.dcc_c.specs.Arithmetic.{negated}
use Rattle.dcc_c.specs.Tree.{Expr, Number, Unary}
use Rattle.dcc_c.specs.Value.{number, Gives, Scope}
use Rattle.dcc_text.specs.Spelled.{Way, Low, Exact, Signed, reckoning_type, constant}
use Rattle.dcc_text.proofs.Sizes.{Size, bit, byte, word, long, bits}
use Rattle.dcc_text.proofs.Meanings.{IsNumber}
use Rattle.dcc_text.proofs.Reckoning.{negated-number}
use Rattle.dcc_text.proofs.Signs.{signed_reckons, signed_bits}
use Rattle.dcc_text.proofs.Ways.{Text, from-number, lowered, cut-signed}
use Rattle.dcc_text.proofs.Operands.{exact-text, signed-text}

module _ (scope : Scope) where
  pub constant-number : (base : Base) (n : ℕ) → n < 2 ^ bits_of base → IsNumber scope base n (Number n base)
  constant-number base n fits = record { typed = refl; valued = ap (λ k. Gives (number base k)) (mod-eq_of_lt fits) }

  exact-constant : (size : Size) (n : ℕ) → n < 2 ^ bits size → Text scope Exact size n (constant Exact (bits size) n)
  exact-constant bit n fits = exact-text scope bit Int n _ refl fits (constant-number Int n (omega (arith, fits)))
  exact-constant byte n fits = exact-text scope byte Int n _ refl fits (constant-number Int n (omega (arith, fits)))
  exact-constant word n fits = exact-text scope word Uint n _ refl fits (constant-number Uint n fits)
  exact-constant long n fits = exact-text scope long Ulong n _ refl fits (constant-number Ulong n fits)

  low-constant : (size : Size) (n : ℕ) → n < 2 ^ bits size → Text scope Low size n (constant Low (bits size) n)
  low-constant bit n fits = lowered scope Exact bit n _ (exact-constant bit n fits)
  low-constant byte n fits = lowered scope Exact byte n _ (exact-constant byte n fits)
  low-constant word n fits = at (nat_lt n 32768)
    where
      at : (b : Bool) → Text scope Low word n (Number n (reckoning_type b 16))
      at true = from-number scope Low word Int n n _ refl fits fits (constant-number Int n fits) refl
      at false = from-number scope Low word Uint n n _ refl fits fits (constant-number Uint n fits) refl
  low-constant long n fits = at (nat_lt n 2147483648)
    where
      at : (b : Bool) → Text scope Low long n (Number n (reckoning_type b 32))
      at true = from-number scope Low long Long n n _ refl fits fits (constant-number Long n fits) refl
      at false = from-number scope Low long Ulong n n _ refl fits fits (constant-number Ulong n fits) refl

  -- numbers from 0 on, and those below 0
  small-signed : (size : Size) (n : ℕ) → nat_lt n (2 ^ (bits size - 1)) ≡ true → signed_bits size n ≡ n
  small-signed bit n low = grind (arith, nat_tests)
  small-signed byte n low = grind (arith, nat_tests)
  small-signed word n low = grind (arith, nat_tests)
  small-signed long n low = grind (arith, nat_tests)

  type-is : (size : Size) → reckoning_type true (bits size) ≡ signed_reckons size
  type-is bit = refl
  type-is byte = refl
  type-is word = refl
  type-is long = refl

  type-fits : (size : Size) (n : ℕ) → n < 2 ^ bits size → n < 2 ^ bits_of (signed_reckons size)
  type-fits bit n fits = omega (arith, fits)
  type-fits byte n fits = omega (arith, fits)
  type-fits word n fits = fits
  type-fits long n fits = fits

  minus-number : (size : Size) (k : ℕ) (e : Expr) → IsNumber scope (signed_reckons size) k e → k < 2 ^ bits_of (signed_reckons size) → IsNumber scope (signed_reckons size) (negated (signed_reckons size) k) (Unary Minus e)
  minus-number bit k e x fits = subst (λ j. IsNumber scope Int (negated Int j) (Unary Minus e)) (let same : convert Int Int k ≡ k = grind (arith, nat_tests) in same) (negated-number scope Int k e x)
  minus-number byte k e x fits = subst (λ j. IsNumber scope Int (negated Int j) (Unary Minus e)) (let same : convert Int Int k ≡ k = grind (arith, nat_tests) in same) (negated-number scope Int k e x)
  minus-number word k e x fits = subst (λ j. IsNumber scope Int (negated Int j) (Unary Minus e)) (let same : convert Int Int k ≡ k = grind (arith, nat_tests) in same) (negated-number scope Int k e x)
  minus-number long k e x fits = subst (λ j. IsNumber scope Long (negated Long j) (Unary Minus e)) (let same : convert Long Long k ≡ k = grind (arith, nat_tests) in same) (negated-number scope Long k e x)

  below-is : (size : Size) (n : ℕ) → n < 2 ^ bits size → nat_lt n (2 ^ (bits size - 1)) ≡ false → negated (signed_reckons size) (2 ^ bits size - n) ≡ signed_bits size n
  below-is bit n fits high = grind (arith, nat_tests)
  below-is byte n fits high = grind (arith, nat_tests)
  below-is word n fits high = grind (arith, nat_tests)
  below-is long n fits high = grind (arith, nat_tests)

  size-fits : (size : Size) (n : ℕ) → nat_lt n (2 ^ (bits size - 1)) ≡ false → 2 ^ bits size - n < 2 ^ bits_of (signed_reckons size)
  size-fits bit n high = grind (arith, nat_tests)
  size-fits byte n high = grind (arith, nat_tests)
  size-fits word n high = grind (arith, nat_tests)
  size-fits long n high = grind (arith, nat_tests)

  signed-constant : (size : Size) (n : ℕ) → n < 2 ^ bits size → Text scope Signed size n (constant Signed (bits size) n)
  signed-constant size n fits = elim (cases_Bool (nat_lt n (2 ^ (bits size - 1)))) [
    | inl low ↦
        rw low (rw (type-is size) (signed-text scope size n (Number n (signed_reckons size)) fits
        (subst (λ k. IsNumber scope (signed_reckons size) k (Number n (signed_reckons size))) (sym (small-signed size n low)) (constant-number (signed_reckons size) n (type-fits size n fits)))))
    | inr high ↦ elim (cases_Bool (n == 2 ^ (bits size - 1))) [
      | inl half ↦ rw high (rw half (cut-signed scope size n _ (lowered scope Exact size n _ (exact-constant size n fits))))
      | inr apart ↦
          rw high (rw apart (rw (type-is size) (signed-text scope size n _ fits
          (subst (λ k. IsNumber scope (signed_reckons size) k (Unary Minus (Number (2 ^ bits size - n) (signed_reckons size)))) (below-is size n fits high)
          (minus-number size (2 ^ bits size - n) _ (constant-number (signed_reckons size) (2 ^ bits size - n) (size-fits size n high)) (size-fits size n high))))))
    ]
  ]

  pub constant-text : (way : Way) (size : Size) (n : ℕ) → n < 2 ^ bits size → Text scope way size n (constant way (bits size) n)
  constant-text Low size n fits = low-constant size n fits
  constant-text Exact size n fits = exact-constant size n fits
  constant-text Signed size n fits = signed-constant size n fits
