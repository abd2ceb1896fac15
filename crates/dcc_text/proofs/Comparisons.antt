-- Comparisons: they give one bit.
use Rattle.std.proofs.Common.{◌≡◌, ℕ, ◌+◌, ◌-◌, ◌^◌, ◌<◌, ◌≤◌, Bool, true, false, refl, sym, ap, ap₂, ◌∙◌, subst, true≢false, arith, ℤ, pos, negsuc}
use Rattle.std.specs.Prelude.{not, ◌==◌, nat_le, nat_lt, int_lt, int_le}
use Rattle.std.specs.Int.{from_bool}
use Rattle.std.proofs.lemmas.Bool.Decides.{nat_tests}
use Rattle.std.proofs.lemmas.Int.{ints}
use Rattle.dcc_ir.specs.declared.syntax.UnOp.TheVariants.{IsZero}
use Rattle.dcc_ir.specs.declared.syntax.BinOp.TheVariants.{Eq as EqOp, LtS, LtU, LeS, LeU}
use Rattle.dcc_ir.specs.Value as inner
use Rattle.dcc_ir.specs.Value.{signed_at}
use Rattle.dcc_c.specs.declared.syntax.Base.{Base}
use Rattle.dcc_c.specs.declared.syntax.Base.TheVariants.{Schar, Uchar, Int, Uint, Long, Ulong}
use Rattle.dcc_c.specs.declared.syntax.CBin.{CBin}
use Rattle.dcc_c.specs.declared.syntax.CBin.TheVariants.{Eq, Lt, Le}
use Rattle.dcc_c.specs.Types.{bits_of, common_type, convert}
use Rattle.dcc_c.specs.Arithmetic.{is_less}
use Rattle.dcc_c.specs.Tree.{Expr, Binary}
use Rattle.dcc_c.specs.Value.{Scope}
use Rattle.dcc_text.specs.Spelled.{Low, Exact, Signed, small, compared}
use Rattle.dcc_text.proofs.Sizes.{Size, bit, byte, word, long, bits, reckons, common-is, kept}
use Rattle.dcc_text.proofs.Meanings.{IsNumber, small-number}
use Rattle.dcc_text.proofs.Reckoning.{Compares, comparing-number}
use Rattle.dcc_text.proofs.Signs.{signed_reckons, signed_bits, positive, negative, sign-of}
use Rattle.dcc_text.proofs.Ways.{carries, Text}
use Rattle.dcc_text.proofs.Wide.{is_wide, wide-bits, wide-common, wide-kept, wide-number}
use Rattle.dcc_text.proofs.Operands.{exact-holds, signed-common, exact-number, exact-text, signed-converted}

eq-compares : Compares Eq (λ t k l. k == l)
eq-compares = record { eager = record { eager = λ s e g. refl }; typing = λ a b. refl; valuing = λ a b n m. refl }

lt-compares : Compares Lt is_less
lt-compares = record { eager = record { eager = λ s e g. refl }; typing = λ a b. refl; valuing = λ a b n m. refl }

le-compares : Compares Le (λ t k l. not (is_less t l k))
le-compares = record { eager = record { eager = λ s e g. refl }; typing = λ a b. refl; valuing = λ a b n m. refl }

-- numbers of a size are compared as they are
less-is : (size : Size) (n m : ℕ) → n < 2 ^ bits size → m < 2 ^ bits size → is_less (reckons size) n m ≡ nat_lt n m
less-is bit n m fits small = grind (arith, nat_tests)
less-is byte n m fits small = grind (arith, nat_tests)
less-is word n m fits small = refl
less-is long n m fits small = refl

not-less : (n m : ℕ) → not (nat_lt m n) ≡ nat_le n m
not-less n m = grind (arith, nat_tests)

-- signed numbers are compared by their places in the order
signed-less : (size : Size) (n m : ℕ) → n < 2 ^ bits size → m < 2 ^ bits size → is_less (signed_reckons size) (signed_bits size n) (signed_bits size m)
    ≡ int_lt (signed_at (bits size) n) (signed_at (bits size) m)
signed-less size n m fits small = elim (sign-of size n fits) [
  | positive low is same ↦ elim (sign-of size m small) [
    | positive low' is' same' ↦ rw is (rw is' (rw same (rw same' (both_up size low low'))))
    | negative high' is' same' ↦ rw is (rw is' (rw same (rw same' (up_down size small low high'))))
  ]
  | negative high is same ↦ elim (sign-of size m small) [
    | positive low' is' same' ↦ rw is (rw is' (rw same (rw same' (down_up size fits high low'))))
    | negative high' is' same' ↦ rw is (rw is' (rw same (rw same' (both_down size fits small high high'))))
  ]
]
  where
    both_up : (size : Size) → n < 2 ^ (bits size - 1) → m < 2 ^ (bits size - 1) → is_less (signed_reckons size) n m ≡ int_lt (pos n) (pos m)
    both_up bit low low' = grind (arith, nat_tests, ints)
    both_up byte low low' = grind (arith, nat_tests, ints)
    both_up word low low' = grind (arith, nat_tests, ints)
    both_up long low low' = grind (arith, nat_tests, ints)

    up_down : (size : Size) → m < 2 ^ bits size → n < 2 ^ (bits size - 1) → 2 ^ (bits size - 1) ≤ m
        → is_less (signed_reckons size) n (m + (2 ^ bits_of (signed_reckons size) - 2 ^ bits size)) ≡ int_lt (pos n) (negsuc (2 ^ bits size - 1 - m))
    up_down bit small low high' = grind (arith, nat_tests, ints)
    up_down byte small low high' = grind (arith, nat_tests, ints)
    up_down word small low high' = grind (arith, nat_tests, ints)
    up_down long small low high' = grind (arith, nat_tests, ints)

    down_up : (size : Size) → n < 2 ^ bits size → 2 ^ (bits size - 1) ≤ n → m < 2 ^ (bits size - 1)
        → is_less (signed_reckons size) (n + (2 ^ bits_of (signed_reckons size) - 2 ^ bits size)) m ≡ int_lt (negsuc (2 ^ bits size - 1 - n)) (pos m)
    down_up bit fits high low' = grind (arith, nat_tests, ints)
    down_up byte fits high low' = grind (arith, nat_tests, ints)
    down_up word fits high low' = grind (arith, nat_tests, ints)
    down_up long fits high low' = grind (arith, nat_tests, ints)

    both_down : (size : Size) → n < 2 ^ bits size → m < 2 ^ bits size → 2 ^ (bits size - 1) ≤ n → 2 ^ (bits size - 1) ≤ m
        → is_less (signed_reckons size) (n + (2 ^ bits_of (signed_reckons size) - 2 ^ bits size)) (m + (2 ^ bits_of (signed_reckons size) - 2 ^ bits size))
        ≡ int_lt (negsuc (2 ^ bits size - 1 - n)) (negsuc (2 ^ bits size - 1 - m))
    both_down bit fits small high high' = grind (arith, nat_tests, ints)
    both_down byte fits small high high' = grind (arith, nat_tests, ints)
    both_down word fits small high high' = grind (arith, nat_tests, ints)
    both_down long fits small high high' = grind (arith, nat_tests, ints)

signed-not_less : (x y : ℤ) → not (int_lt y x) ≡ int_le x y
signed-not_less x y = grind (arith, ints)

bit-fits : (b : Bool) → from_bool b < 2
bit-fits true = omega arith
bit-fits false = omega arith

module _ (scope : Scope) where
  -- a comparison gives one bit
  truth-text : (b c : Bool) (e : Expr) → b ≡ c → IsNumber scope Int (from_bool b) e → Text scope Exact bit (from_bool c) e
  truth-text b c e same is = exact-text scope bit Int (from_bool c) e refl (bit-fits c) (subst (λ x. IsNumber scope Int (from_bool x) e) same is)

  module _ (size : Size) (n m : ℕ) (a b : Expr) where
    -- of exact numbers
    of-exact : (operator : CBin) (f : Base → ℕ → ℕ → Bool) → Compares operator f → Text scope Exact size n a → Text scope Exact size m b
        → IsNumber scope Int (from_bool (f (reckons size) n m)) (Binary operator a b)
    of-exact operator f c x y =
        subst (λ k. IsNumber scope Int (from_bool k) (Binary operator a b))
        (ap (λ t. f t (convert x.base t n) (convert y.base t m)) (common-is size x.base y.base (exact-holds size x.base x.is) (exact-holds size y.base y.is))
        ∙ ap₂ (f (reckons size)) (kept size x.base n (exact-holds size x.base x.is) x.fits) (kept size y.base m (exact-holds size y.base y.is) y.fits))
        (comparing-number scope operator f c x.base y.base n m a b (exact-number scope size n a x) (exact-number scope size m b y))

    -- the comparison of numbers by their signs
    of-signed : (operator : CBin) (f : Base → ℕ → ℕ → Bool) → Compares operator f → Text scope Signed size n a → Text scope Signed size m b
        → IsNumber scope Int (from_bool (f (signed_reckons size) (signed_bits size n) (signed_bits size m))) (Binary operator a b)
    of-signed operator f c x y =
        subst (λ k. IsNumber scope Int (from_bool k) (Binary operator a b))
        (ap (λ t. f t (convert x.base t x.k) (convert y.base t y.k)) (signed-common size x.base y.base x.is y.is)
        ∙ ap₂ (f (signed_reckons size)) (signed-converted scope size n a x) (signed-converted scope size m b y))
        (comparing-number scope operator f c x.base y.base x.k y.k a b x.number_is y.number_is)

    -- words and longs are equal where their low bits are
    of-wide : is_wide size ≡ true → Text scope Low size n a → Text scope Low size m b → IsNumber scope Int (from_bool (n == m)) (Binary Eq a b)
    of-wide wide x y =
        let c = common_type x.base y.base in
        let same = wide-bits Low size c wide (wide-common Low size x.base y.base wide x.is y.is) in
        subst (λ k. IsNumber scope Int (from_bool k) (Binary Eq a b))
        (ap₂ (λ k l. k == l) (wide-kept Low size x.base c n wide x.is same x.fits) (wide-kept Low size y.base c m wide y.is same y.fits))
        (comparing-number scope Eq _ eq-compares x.base y.base n m a b (wide-number scope Low size wide n a x) (wide-number scope Low size wide m b y))

    pub ltu-text : Text scope Exact size n a → Text scope Exact size m b → Text scope Exact bit (inner.binary_value LtU (bits size) n m) (Binary Lt a b)
    ltu-text x y = truth-text _ (nat_lt n m) (Binary Lt a b) (less-is size n m x.fits y.fits) (of-exact Lt _ lt-compares x y)

    pub leu-text : Text scope Exact size n a → Text scope Exact size m b → Text scope Exact bit (inner.binary_value LeU (bits size) n m) (Binary Le a b)
    leu-text x y = truth-text _ (nat_le n m) (Binary Le a b) (ap not (less-is size m n y.fits x.fits) ∙ not-less n m) (of-exact Le _ le-compares x y)

    pub lts-text : Text scope Signed size n a → Text scope Signed size m b → Text scope Exact bit (inner.binary_value LtS (bits size) n m) (Binary Lt a b)
    lts-text x y = truth-text _ (int_lt (signed_at (bits size) n) (signed_at (bits size) m)) _ (signed-less size n m x.fits y.fits) (of-signed Lt _ lt-compares x y)

    pub les-text : Text scope Signed size n a → Text scope Signed size m b → Text scope Exact bit (inner.binary_value LeS (bits size) n m) (Binary Le a b)
    les-text x y =
        truth-text _ (int_le (signed_at (bits size) n) (signed_at (bits size) m)) _
        (ap not (signed-less size m n y.fits x.fits) ∙ signed-not_less (signed_at (bits size) n) (signed_at (bits size) m)) (of-signed Le _ le-compares x y)

  pub eq-text : (size : Size) (n m : ℕ) (a b : Expr) → Text scope (compared (bits size)) size n a → Text scope (compared (bits size)) size m b
      → Text scope Exact bit (inner.binary_value EqOp (bits size) n m) (Binary Eq a b)
  eq-text bit n m a b x y = truth-text (n == m) (n == m) _ refl (of-exact bit n m a b Eq _ eq-compares x y)
  eq-text byte n m a b x y = truth-text (n == m) (n == m) _ refl (of-exact byte n m a b Eq _ eq-compares x y)
  eq-text word n m a b x y = truth-text (n == m) (n == m) _ refl (of-wide word n m a b refl x y)
  eq-text long n m a b x y = truth-text (n == m) (n == m) _ refl (of-wide long n m a b refl x y)

  -- a number against the constant 0
  zero-is : (base : Base) → convert Int (common_type base Int) 0 ≡ 0
  zero-is Schar = refl
  zero-is Uchar = refl
  zero-is Int = refl
  zero-is Uint = refl
  zero-is Long = refl
  zero-is Ulong = refl

  zero-number : (base : Base) (n : ℕ) (a : Expr) → IsNumber scope base n a → convert base (common_type base Int) n ≡ n → IsNumber scope Int (from_bool (n == 0)) (Binary Eq a (small 0))
  zero-number base n a x same =
      subst (λ k. IsNumber scope Int (from_bool k) (Binary Eq a (small 0))) (ap₂ (λ k l. k == l) same (zero-is base))
      (comparing-number scope Eq _ eq-compares base Int n 0 a (small 0) x (small-number scope 0 (omega arith)))

  pub zero-text : (size : Size) (n : ℕ) (a : Expr) → Text scope (compared (bits size)) size n a → Text scope Exact bit (inner.unary_value IsZero (bits size) n) (Binary Eq a (small 0))
  zero-text bit n a x =
      truth-text (n == 0) (n == 0) _ refl (zero-number x.base n a (exact-number scope bit n a x)
      (ap (λ t. convert x.base t n) (common-is bit x.base Int x.is refl) ∙ kept bit x.base n x.is x.fits))
  zero-text byte n a x =
      truth-text (n == 0) (n == 0) _ refl (zero-number x.base n a (exact-number scope byte n a x)
      (ap (λ t. convert x.base t n) (common-is byte x.base Int x.is refl) ∙ kept byte x.base n x.is x.fits))
  zero-text word n a x =
      truth-text (n == 0) (n == 0) _ refl (zero-number x.base n a (wide-number scope Low word refl n a x)
      (wide-kept Low word x.base (common_type x.base Int) n refl x.is (at x.base x.is) x.fits))
    where
      at : (base : Base) → carries Low word base ≡ true → bits_of (common_type base Int) ≡ 16
      at Int is = refl
      at Uint is = refl
      at base is = absurd (true≢false (sym is))
  zero-text long n a x =
      truth-text (n == 0) (n == 0) _ refl (zero-number x.base n a (wide-number scope Low long refl n a x)
      (wide-kept Low long x.base (common_type x.base Int) n refl x.is (at x.base x.is) x.fits))
    where
      at : (base : Base) → carries Low long base ≡ true → bits_of (common_type base Int) ≡ 32
      at Long is = refl
      at Ulong is = refl
      at base is = absurd (true≢false (sym is))
