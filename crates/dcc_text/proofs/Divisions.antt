-- Divisions.
use Rattle.std.proofs.Common.{◌≡◌, ℕ, zero, suc, ◌-◌, ◌*◌, ◌/◌, ◌%◌, ◌^◌, ◌<◌, ◌≤◌, inl, inr, Bool, true, false, Some, refl, ap, ap₂, ◌∙◌, subst, arith, pos}
use Rattle.std.specs.Prelude.{◌==◌, not, if◌then◌else◌, neg_ℤ, int_div, int_rem}
use Rattle.std.proofs.lemmas.Bool.{cases_lt}
use Rattle.std.proofs.lemmas.Bool.Decides.{nat_tests}
use Rattle.std.proofs.Math.Nat.{div-le_self, mod-le, div-lt_iff_lt-mul}
use Rattle.dcc_ir.specs.Value.{signed_at, pattern_at, faults_signed}
use Rattle.dcc_c.specs.declared.syntax.Base.{Base}
use Rattle.dcc_c.specs.declared.syntax.Base.TheVariants.{Int, Long}
use Rattle.dcc_c.specs.declared.syntax.CBin.{CBin}
use Rattle.dcc_c.specs.declared.syntax.CBin.TheVariants.{Div, Rem}
use Rattle.dcc_c.specs.Types.{bits_of, common_type, convert, is_negative, plain}
use Rattle.dcc_c.specs.Arithmetic.{negated, with_sign, division_faults, quotient, remainder}
use Rattle.dcc_c.specs.Tree.{Expr, Binary}
use Rattle.dcc_c.specs.Typing.{numbers_type}
use Rattle.dcc_c.specs.Value.{number, Gives, Divides, Scope, numbers_value}
use Rattle.dcc_text.specs.Spelled.{Exact, Signed}
use Rattle.dcc_text.proofs.Sizes.{Size, bit, byte, word, long, bits, reckons, common-is, kept, is-positive}
use Rattle.dcc_text.proofs.Meanings.{IsNumber, binary-valued, binary-typed}
use Rattle.dcc_text.proofs.Reckoning.{IsEager}
use Rattle.dcc_text.proofs.Signs.{signed_reckons, signed_bits, positive, negative, sign-of}
use Rattle.dcc_text.proofs.Ways.{Text}
use Rattle.dcc_text.proofs.Operands.{exact-holds, exact-number, exact-text, signed-common, signed-converted, signed-text, word-signed, long-signed}
use Rattle.dcc_text.proofs.Shifts.{reckons-holds, above, below, bits_below, signed-up, pattern-fits}

-- the operator divides in the common type of its operands
pub record Parts (operator : CBin) (f : Base → ℕ → ℕ → ℕ) : Type 0 where
  pub eager : IsEager operator
  pub typing : (a b : Base) → numbers_type operator a b ≡ common_type a b
  pub valuing : (a b : Base) (n m : ℕ) → numbers_value operator a n b m ≡ (if division_faults (common_type a b) (convert a (common_type a b) n) (convert b (common_type a b) m) then Divides
      else Gives (number (common_type a b) (f (common_type a b) (convert a (common_type a b) n) (convert b (common_type a b) m))))

pub div-parts : Parts Div quotient
div-parts = record { eager = record { eager = λ s e g. refl }; typing = λ a b. refl; valuing = λ a b n m. refl }

pub rem-parts : Parts Rem remainder
rem-parts = record { eager = record { eager = λ s e g. refl }; typing = λ a b. refl; valuing = λ a b n m. refl }

-- Numbers without a sign.

pub exact-faults : (size : Size) (n m : ℕ) → n < 2 ^ bits size → division_faults (reckons size) n m ≡ (m == 0)
exact-faults bit n m fits = grind (arith, nat_tests)
exact-faults byte n m fits = grind (arith, nat_tests)
exact-faults word n m fits = grind (arith, nat_tests)
exact-faults long n m fits = grind (arith, nat_tests)

pub by-signs : (t : Base) (k l : ℕ) (p q : Bool) → is_negative t k ≡ p → is_negative t l ≡ q → quotient t k l
    ≡ with_sign (not (if p then q else not q)) t ((if p then 2 ^ bits_of t - k else k) / (if q then 2 ^ bits_of t - l else l))
by-signs t k l p q first second = rw first (rw second refl)

pub rest-by-signs : (t : Base) (k l : ℕ) (p q : Bool) → is_negative t k ≡ p → is_negative t l ≡ q → remainder t k l
    ≡ with_sign p t ((if p then 2 ^ bits_of t - k else k) % (if q then 2 ^ bits_of t - l else l))
rest-by-signs t k l p q first second = rw first (rw second refl)

-- Signed numbers.

-- a number below 0 by its size
minus-is : (size : Size) (q : ℕ) → q ≤ 2 ^ (bits size - 1) → negated (signed_reckons size) q ≡ signed_bits size (pattern_at (bits size) (neg_ℤ (pos q)))
minus-is bit zero low = refl
minus-is byte zero low = refl
minus-is word zero low = refl
minus-is long zero low = refl
minus-is bit (suc q) low = grind (arith, nat_tests)
minus-is byte (suc q) low = grind (arith, nat_tests)
minus-is word (suc q) low = grind (arith, nat_tests)
minus-is long (suc q) low = grind (arith, nat_tests)

-- the size of a number below 0
pub size-below : (size : Size) (n : ℕ) → n < 2 ^ bits size → 2 ^ bits_of (signed_reckons size) - bits_below size n ≡ suc (2 ^ bits size - 1 - n)
size-below bit n fits = omega (arith, fits)
size-below byte n fits = omega (arith, fits)
size-below word n fits = omega (arith, fits)
size-below long n fits = omega (arith, fits)

size-low : (size : Size) (n : ℕ) → n < 2 ^ bits size → 2 ^ (bits size - 1) ≤ n → suc (2 ^ bits size - 1 - n) ≤ 2 ^ (bits size - 1)
size-low bit n fits high = omega (arith, fits, high)
size-low byte n fits high = omega (arith, fits, high)
size-low word n fits high = omega (arith, fits, high)
size-low long n fits high = omega (arith, fits, high)

module _ (size : Size) (n m : ℕ) (fits : n < 2 ^ bits size) (small : m < 2 ^ bits size) where
  abbrev t : Base
  t = signed_reckons size

  -- what the sizes are one above, where the numbers are below 0
  abbrev u : ℕ
  u = 2 ^ bits size - 1 - m

  abbrev v : ℕ
  v = 2 ^ bits size - 1 - n

  -- The quotient of signed numbers that does not fault.
  pub signed-quotient : faults_signed (bits size) n m ≡ false
      → quotient (signed_reckons size) (signed_bits size n) (signed_bits size m) ≡ signed_bits size (pattern_at (bits size) (int_div (signed_at (bits size) n) (signed_at (bits size) m)))
  signed-quotient safe = elim (sign-of size n fits) [
    | positive low is same ↦ elim (sign-of size m small) [
      | positive low' is' same' ↦
          rw is (rw is' (rw same (rw same' (by-signs t n m false false (above size n low) (above size m low') ∙ signed-up size (n / m) (omega (arith, low, div-le_self n m))))))
      | negative high' is' same' ↦
          rw is (rw is' (rw same (rw same' (by-signs t n (bits_below size m) false true (above size n low) (below size m high')
          ∙ ap (λ d. negated t (n / d)) (size-below size m small) ∙ minus-is size (n / suc u) (omega (arith, low, div-le_self n (suc u)))))))
    ]
    | negative high is same ↦ elim (sign-of size m small) [
      | positive low' is' same' ↦
          rw is (rw is' (rw same (rw same' (by-signs t (bits_below size n) m true false (below size n high) (above size m low')
          ∙ ap (λ d. negated t (d / m)) (size-below size n fits) ∙ minus-is size (suc v / m) (omega (arith, size-low size n fits high, div-le_self (suc v) m))))))
      | negative high' is' same' ↦
          rw is (rw is' (rw same (rw same' (by-signs t (bits_below size n) (bits_below size m) true true (below size n high) (below size m high')
          ∙ ap₂ (λ c d. c / d) (size-below size n fits) (size-below size m small) ∙ signed-up size (suc v / suc u) (both_below size fits small high safe)))))
    ]
  ]
    where
      -- the quotient of two numbers below 0 is no greater than the greatest
      both_below : (size : Size) → n < 2 ^ bits size → m < 2 ^ bits size → 2 ^ (bits size - 1) ≤ n → faults_signed (bits size) n m ≡ false
          → suc (2 ^ bits size - 1 - n) / suc (2 ^ bits size - 1 - m) < 2 ^ (bits size - 1)
      both_below size fits small high safe = elim (cases_lt (2 ^ bits size - 1 - m) 1) [
        | inl none ↦ one_below size fits small high safe none
        | inr some ↦ (div-lt_iff_lt-mul (omega arith)).1 (enough size fits high some)
      ]
        where
          one_below : (size : Size) → n < 2 ^ bits size → m < 2 ^ bits size → 2 ^ (bits size - 1) ≤ n → faults_signed (bits size) n m ≡ false → 2 ^ bits size - 1 - m < 1
              → suc (2 ^ bits size - 1 - n) / suc (2 ^ bits size - 1 - m) < 2 ^ (bits size - 1)
          one_below bit fits small high safe none = grind (arith, nat_tests)
          one_below byte fits small high safe none = grind (arith, nat_tests)
          one_below word fits small high safe none = grind (arith, nat_tests)
          one_below long fits small high safe none = grind (arith, nat_tests)

          enough : (size : Size) → n < 2 ^ bits size → 2 ^ (bits size - 1) ≤ n → 1 ≤ 2 ^ bits size - 1 - m → suc (2 ^ bits size - 1 - n) < 2 ^ (bits size - 1) * suc (2 ^ bits size - 1 - m)
          enough bit fits high some = omega (arith, fits, high, some)
          enough byte fits high some = omega (arith, fits, high, some)
          enough word fits high some = omega (arith, fits, high, some)
          enough long fits high some = omega (arith, fits, high, some)

  pub signed-remainder : remainder (signed_reckons size) (signed_bits size n) (signed_bits size m) ≡ signed_bits size (pattern_at (bits size) (int_rem (signed_at (bits size) n) (signed_at (bits size) m)))
  signed-remainder = elim (sign-of size n fits) [
    | positive low is same ↦ elim (sign-of size m small) [
      | positive low' is' same' ↦
          rw is (rw is' (rw same (rw same' (rest-by-signs t n m false false (above size n low) (above size m low') ∙ signed-up size (n % m) (omega (arith, low, mod-le n m))))))
      | negative high' is' same' ↦
          rw is (rw is' (rw same (rw same' (rest-by-signs t n (bits_below size m) false true (above size n low) (below size m high')
          ∙ ap (λ d. n % d) (size-below size m small) ∙ signed-up size (n % suc u) (omega (arith, low, mod-le n (suc u)))))))
    ]
    | negative high is same ↦ elim (sign-of size m small) [
      | positive low' is' same' ↦
          rw is (rw is' (rw same (rw same' (rest-by-signs t (bits_below size n) m true false (below size n high) (above size m low')
          ∙ ap (λ d. negated t (d % m)) (size-below size n fits) ∙ minus-is size (suc v % m) (omega (arith, size-low size n fits high, mod-le (suc v) m))))))
      | negative high' is' same' ↦
          rw is (rw is' (rw same (rw same' (rest-by-signs t (bits_below size n) (bits_below size m) true true (below size n high) (below size m high')
          ∙ ap₂ (λ c d. negated t (c % d)) (size-below size n fits) (size-below size m small) ∙ minus-is size (suc v % suc u) (omega (arith, size-low size n fits high, mod-le (suc v) (suc u)))))))
    ]
  ]

-- a division that does not fault on the numbers does not fault where operators reckon
signed-safe : (size : Size) (n m : ℕ) → n < 2 ^ bits size → m < 2 ^ bits size → faults_signed (bits size) n m ≡ false → division_faults (signed_reckons size) (signed_bits size n) (signed_bits size m) ≡ false
signed-safe bit n m fits small safe = grind (arith, nat_tests)
signed-safe byte n m fits small safe = grind (arith, nat_tests)
signed-safe word n m fits small safe = ap₂ (division_faults Int) (word-signed n) (word-signed m) ∙ safe
signed-safe long n m fits small safe = ap₂ (division_faults Long) (long-signed n) (long-signed m) ∙ safe

module _ (scope : Scope) where
  pub division-number : (operator : CBin) (f : Base → ℕ → ℕ → ℕ) → Parts operator f → (a b : Base) (n m : ℕ) (e g : Expr) → IsNumber scope a n e → IsNumber scope b m g
      → division_faults (common_type a b) (convert a (common_type a b) n) (convert b (common_type a b) m) ≡ false
      → IsNumber scope (common_type a b) (f (common_type a b) (convert a (common_type a b) n) (convert b (common_type a b) m)) (Binary operator e g)
  division-number operator f r a b n m e g x y safe = record {
    typed = binary-typed scope operator a b n m e g x y ∙ ap (λ t. Some (plain t)) (r.typing a b);
    valued = r.eager.eager scope e g ∙ binary-valued scope operator a b n m e g x y ∙ r.valuing a b n m
        ∙ ap (λ c. if c then Divides else Gives (number (common_type a b) (f (common_type a b) (convert a (common_type a b) n) (convert b (common_type a b) m)))) safe;
  }

  module _ (operator : CBin) (f : Base → ℕ → ℕ → ℕ) (parts : Parts operator f) (size : Size) (n m : ℕ) (a b : Expr) where
    exact-division : Text scope Exact size n a → Text scope Exact size m b → (m == 0) ≡ false → IsNumber scope (reckons size) (f (reckons size) n m) (Binary operator a b)
    exact-division x y some =
        let x_is = exact-holds size x.base x.is in
        let y_is = exact-holds size y.base y.is in
        let c = common-is size x.base y.base x_is y_is in
        let same : (t : Base) → t ≡ reckons size → (convert x.base t n ≡ n) × (convert y.base t m ≡ m)
        = λ t e. (ap (λ t. convert x.base t n) e ∙ kept size x.base n x_is x.fits, ap (λ t. convert y.base t m) e ∙ kept size y.base m y_is y.fits) in
        let is = division-number operator f parts x.base y.base n m a b (exact-number scope size n a x) (exact-number scope size m b y)
        (ap₂ (division_faults (common_type x.base y.base)) (same (common_type x.base y.base) c).0 (same (common_type x.base y.base) c).1
        ∙ ap (λ t. division_faults t n m) c ∙ exact-faults size n m x.fits ∙ some) in
        subst (λ k. IsNumber scope (reckons size) k (Binary operator a b))
        (ap₂ (f (reckons size)) (kept size x.base n x_is x.fits) (kept size y.base m y_is y.fits))
        (subst (λ t. IsNumber scope t (f t (convert x.base t n) (convert y.base t m)) (Binary operator a b)) c is)

    signed-division : Text scope Signed size n a → Text scope Signed size m b → faults_signed (bits size) n m ≡ false
        → IsNumber scope (signed_reckons size) (f (signed_reckons size) (signed_bits size n) (signed_bits size m)) (Binary operator a b)
    signed-division x y safe =
        let c = signed-common size x.base y.base x.is y.is in
        let left = signed-converted scope size n a x in
        let right = signed-converted scope size m b y in
        let is = division-number operator f parts x.base y.base x.k y.k a b x.number_is y.number_is
        (ap (λ t. division_faults t (convert x.base t x.k) (convert y.base t y.k)) c ∙ ap₂ (division_faults (signed_reckons size)) left right ∙ signed-safe size n m x.fits y.fits safe) in
        subst (λ k. IsNumber scope (signed_reckons size) k (Binary operator a b)) (ap₂ (f (signed_reckons size)) left right)
        (subst (λ t. IsNumber scope t (f t (convert x.base t x.k) (convert y.base t y.k)) (Binary operator a b)) c is)

  module _ (size : Size) (n m : ℕ) (a b : Expr) where
    pub divu-text : Text scope Exact size n a → Text scope Exact size m b → (m == 0) ≡ false → Text scope Exact size (n / m) (Binary Div a b)
    divu-text x y some =
        exact-text scope size (reckons size) (n / m) (Binary Div a b) (reckons-holds size) (omega (arith, x.fits, div-le_self n m))
        (subst (λ k. IsNumber scope (reckons size) k (Binary Div a b))
        (by-signs (reckons size) n m false false (is-positive size (reckons size) n (reckons-holds size) x.fits) (is-positive size (reckons size) m (reckons-holds size) y.fits))
        (exact-division Div quotient div-parts size n m a b x y some))

    pub remu-text : Text scope Exact size n a → Text scope Exact size m b → (m == 0) ≡ false → Text scope Exact size (n % m) (Binary Rem a b)
    remu-text x y some =
        exact-text scope size (reckons size) (n % m) (Binary Rem a b) (reckons-holds size) (omega (arith, x.fits, mod-le n m))
        (subst (λ k. IsNumber scope (reckons size) k (Binary Rem a b))
        (rest-by-signs (reckons size) n m false false (is-positive size (reckons size) n (reckons-holds size) x.fits) (is-positive size (reckons size) m (reckons-holds size) y.fits))
        (exact-division Rem remainder rem-parts size n m a b x y some))

    pub divs-text : Text scope Signed size n a → Text scope Signed size m b → faults_signed (bits size) n m ≡ false
        → Text scope Signed size (pattern_at (bits size) (int_div (signed_at (bits size) n) (signed_at (bits size) m))) (Binary Div a b)
    divs-text x y safe =
        signed-text scope size _ (Binary Div a b) (pattern-fits size (int_div (signed_at (bits size) n) (signed_at (bits size) m)))
        (subst (λ k. IsNumber scope (signed_reckons size) k (Binary Div a b)) (signed-quotient size n m x.fits y.fits safe) (signed-division Div quotient div-parts size n m a b x y safe))

    pub rems-text : Text scope Signed size n a → Text scope Signed size m b → faults_signed (bits size) n m ≡ false
        → Text scope Signed size (pattern_at (bits size) (int_rem (signed_at (bits size) n) (signed_at (bits size) m))) (Binary Rem a b)
    rems-text x y safe =
        signed-text scope size _ (Binary Rem a b) (pattern-fits size (int_rem (signed_at (bits size) n) (signed_at (bits size) m)))
        (subst (λ k. IsNumber scope (signed_reckons size) k (Binary Rem a b)) (signed-remainder size n m x.fits y.fits) (signed-division Rem remainder rem-parts size n m a b x y safe))
