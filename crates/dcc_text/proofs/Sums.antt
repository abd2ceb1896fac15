-- Sums, differences, products, operators on single bits, and complements.
use Rattle.std.proofs.Common.{◌≡◌, ℕ, ◌+◌, ◌-◌, ◌*◌, ◌%◌, ◌^◌, ◌<◌, ◌≤◌, true, false, refl, sym, ap, ap₂, ◌∙◌, subst, true≢false, arith}
use Rattle.std.specs.Prelude.{bit_and, bit_or, bit_xor}
use Rattle.std.proofs.lemmas.Nat.{and_le_l, or_lt, xor_lt, and_mod, or_mod, xor_mod, mul-mod, mod_below, pow_pos}
use Rattle.dcc_ir.specs.declared.syntax.BinOp.TheVariants.{Add as AddOp, Sub as SubOp, Mul as MulOp, And as AndOp, Or as OrOp, Xor as XorOp}
use Rattle.dcc_ir.specs.Value as inner
use Rattle.dcc_c.specs.declared.syntax.Base.{Base}
use Rattle.dcc_c.specs.declared.syntax.Base.TheVariants.{Int}
use Rattle.dcc_c.specs.declared.syntax.CBin.{CBin}
use Rattle.dcc_c.specs.declared.syntax.CBin.TheVariants.{Or, Xor, And, Add, Sub, Mul}
use Rattle.dcc_c.specs.Types.{bits_of, common_type, wrapped_bits, convert}
use Rattle.dcc_c.specs.Arithmetic.{difference}
use Rattle.dcc_c.specs.Tree.{Expr, Binary}
use Rattle.dcc_c.specs.Value.{Scope}
use Rattle.dcc_text.specs.Spelled.{Way, Low, Exact, Signed, small, carried, bitwise}
use Rattle.dcc_text.proofs.Sizes.{Size, bit, byte, word, long, bits, kept}
use Rattle.dcc_text.proofs.Meanings.{IsNumber}
use Rattle.dcc_text.proofs.Reckoning.{Reckons, reckoned-number}
use Rattle.dcc_text.proofs.Ways.{Text, from-number}
use Rattle.dcc_text.proofs.Wide.{is_wide, wide-bits, wide-common, wide-kept, wide-number, wide-text, narrow-common, int-kept, int-room}

-- The operator does on bits of a type what the inner one does on numbers of its width; on ints it does that on low bits.
pub record Sums (operator : CBin) (f : Base → ℕ → ℕ → ℕ) (g : ℕ → ℕ → ℕ → ℕ) : Type 0 where
  pub reckons : Reckons operator f
  pub is : (base : Base) (n m : ℕ) → f base n m ≡ g (bits_of base) n m
  pub on_bits : (k l : ℕ) → k < 65536 → l < 65536 → f Int k l % 2 ≡ g 1 (k % 2) (l % 2)
  pub on_bytes : (k l : ℕ) → k < 65536 → l < 65536 → f Int k l % 256 ≡ g 8 (k % 256) (l % 256)
  pub fits : (width n m : ℕ) → n < 2 ^ width → m < 2 ^ width → g width n m < 2 ^ width

below : (width n : ℕ) → n % 2 ^ width < 2 ^ width
below width n = mod_below n (2 ^ width) (pow_pos width)

add-sums : Sums Add (λ t k l. wrapped_bits t (k + l)) (inner.binary_value AddOp)
add-sums = record {
  reckons = record { eager = record { eager = λ s e g. refl }; typing = λ a b. refl; valuing = λ a b n m. refl };
  is = λ t n m. refl;
  on_bits = λ k l small few. omega arith;
  on_bytes = λ k l small few. omega arith;
  fits = λ width n m small few. below width (n + m);
}

pub sub-sums : Sums Sub difference (inner.binary_value SubOp)
sub-sums = record {
  reckons = record { eager = record { eager = λ s e g. refl }; typing = λ a b. refl; valuing = λ a b n m. refl };
  is = λ t n m. refl;
  on_bits = λ k l small few. omega (arith, small, few);
  on_bytes = λ k l small few. omega (arith, small, few);
  fits = λ width n m small few. below width (n + 2 ^ width - m);
}

pub mul-sums : Sums Mul (λ t k l. wrapped_bits t (k * l)) (inner.binary_value MulOp)
mul-sums = record {
  reckons = record { eager = record { eager = λ s e g. refl }; typing = λ a b. refl; valuing = λ a b n m. refl };
  is = λ t n m. refl;
  on_bits = λ k l small few. low-bit (k * l) ∙ mul-mod k l 2;
  on_bytes = λ k l small few. low-byte (k * l) ∙ mul-mod k l 256;
  fits = λ width n m small few. below width (n * m);
}
  where
    low-bit : (n : ℕ) → n % 65536 % 2 ≡ n % 2
    low-bit n = omega arith

    low-byte : (n : ℕ) → n % 65536 % 256 ≡ n % 256
    low-byte n = omega arith

and-sums : Sums And (λ t k l. bit_and k l) (inner.binary_value AndOp)
and-sums = record {
  reckons = record { eager = record { eager = λ s e g. refl }; typing = λ a b. refl; valuing = λ a b n m. refl };
  is = λ t n m. refl;
  on_bits = λ k l small few. and_mod k l 1;
  on_bytes = λ k l small few. and_mod k l 8;
  fits = λ width n m small few. (let low : bit_and n m ≤ n = and_le_l n m in omega (arith, low, small));
}

or-sums : Sums Or (λ t k l. bit_or k l) (inner.binary_value OrOp)
or-sums = record {
  reckons = record { eager = record { eager = λ s e g. refl }; typing = λ a b. refl; valuing = λ a b n m. refl };
  is = λ t n m. refl;
  on_bits = λ k l small few. or_mod k l 1;
  on_bytes = λ k l small few. or_mod k l 8;
  fits = λ width n m small few. or_lt width n m small few;
}

pub xor-sums : Sums Xor (λ t k l. bit_xor k l) (inner.binary_value XorOp)
xor-sums = record {
  reckons = record { eager = record { eager = λ s e g. refl }; typing = λ a b. refl; valuing = λ a b n m. refl };
  is = λ t n m. refl;
  on_bits = λ k l small few. xor_mod k l 1;
  on_bytes = λ k l small few. xor_mod k l 8;
  fits = λ width n m small few. xor_lt width n m small few;
}

module _ (scope : Scope) where
  module _ (operator : CBin) (f : Base → ℕ → ℕ → ℕ) (g : ℕ → ℕ → ℕ → ℕ) (sums : Sums operator f g) where
    -- on words and longs, in each way
    wide-sum : (way : Way) (size : Size) (n m : ℕ) (a b : Expr) → is_wide size ≡ true → Text scope way size n a → Text scope way size m b
        → Text scope way size (g (bits size) n m) (Binary operator a b)
    wide-sum way size n m a b wide x y =
        let c = common_type x.base y.base in
        let c_is = wide-common way size x.base y.base wide x.is y.is in
        let same = wide-bits way size c wide c_is in
        let is = reckoned-number scope operator f sums.reckons x.base y.base n m a b (wide-number scope way size wide n a x) (wide-number scope way size wide m b y) in
        wide-text scope way size wide c (g (bits size) n m) (Binary operator a b) c_is (sums.fits (bits size) n m x.fits y.fits)
        (subst (λ k. IsNumber scope c k (Binary operator a b))
        (ap₂ (f c) (wide-kept way size x.base c n wide x.is same x.fits) (wide-kept way size y.base c m wide y.is same y.fits)
        ∙ sums.is c n m ∙ ap (λ w. g w n m) same)
        is)

    -- on bits and bytes, as ints
    narrow-number : (one other : Way) (size : Size) (n m : ℕ) (a b : Expr) → is_wide size ≡ false → (x : Text scope one size n a) → (y : Text scope other size m b)
        → IsNumber scope Int (f Int (convert x.base Int x.k) (convert y.base Int y.k)) (Binary operator a b)
    narrow-number one other size n m a b narrow x y =
        subst (λ c. IsNumber scope c (f c (convert x.base c x.k) (convert y.base c y.k)) (Binary operator a b)) (narrow-common one other size x.base y.base narrow x.is y.is)
        (reckoned-number scope operator f sums.reckons x.base y.base x.k y.k a b x.number_is y.number_is)

    int-fits : (k l : ℕ) → k < 65536 → l < 65536 → f Int k l < 65536
    int-fits k l small few = subst (λ j. j < 65536) (sym (sums.is Int k l)) (sums.fits 16 k l small few)

    bit-sum : (n m : ℕ) (a b : Expr) → Text scope Low bit n a → Text scope Low bit m b → Text scope Low bit (g 1 n m) (Binary operator a b)
    bit-sum n m a b x y =
        let k = convert x.base Int x.k in
        let l = convert y.base Int y.k in
        from-number scope Low bit Int (f Int k l) (g 1 n m) _ refl (int-fits k l (int-room x.base x.k) (int-room y.base y.k)) (sums.fits 1 n m x.fits y.fits)
        (narrow-number Low Low bit n m a b refl x y)
        (ap (λ j. j % 2) (int-kept (f Int k l) (int-fits k l (int-room x.base x.k) (int-room y.base y.k)))
        ∙ sums.on_bits k l (int-room x.base x.k) (int-room y.base y.k) ∙ ap₂ (g 1) x.means y.means)

    byte-sum : (n m : ℕ) (a b : Expr) → Text scope Low byte n a → Text scope Low byte m b → Text scope Low byte (g 8 n m) (Binary operator a b)
    byte-sum n m a b x y =
        let k = convert x.base Int x.k in
        let l = convert y.base Int y.k in
        from-number scope Low byte Int (f Int k l) (g 8 n m) _ refl (int-fits k l (int-room x.base x.k) (int-room y.base y.k)) (sums.fits 8 n m x.fits y.fits)
        (narrow-number Low Low byte n m a b refl x y)
        (ap (λ j. j % 256) (int-kept (f Int k l) (int-fits k l (int-room x.base x.k) (int-room y.base y.k)))
        ∙ sums.on_bytes k l (int-room x.base x.k) (int-room y.base y.k) ∙ ap₂ (g 8) x.means y.means)

    -- what is carried in a way
    pub carried-sum : (way : Way) (size : Size) (n m : ℕ) (a b : Expr) → Text scope (carried way (bits size)) size n a → Text scope (carried way (bits size)) size m b
        → Text scope (carried way (bits size)) size (g (bits size) n m) (Binary operator a b)
    carried-sum way bit n m a b x y = bit-sum n m a b x y
    carried-sum way byte n m a b x y = byte-sum n m a b x y
    carried-sum way word n m a b x y = wide-sum way word n m a b refl x y
    carried-sum way long n m a b x y = wide-sum way long n m a b refl x y

    -- exact bits and bytes, where the operator gives the same on them as ints
    exact-number : (size : Size) (n m : ℕ) (a b : Expr) → is_wide size ≡ false → Text scope Exact size n a → Text scope Exact size m b → IsNumber scope Int (f Int n m) (Binary operator a b)
    exact-number size n m a b narrow x y =
        subst (λ k. IsNumber scope Int k (Binary operator a b)) (ap₂ (f Int) (same size n a narrow x) (same size m b narrow y)) (narrow-number Exact Exact size n m a b narrow x y)
      where
        same : (size : Size) (n : ℕ) (a : Expr) → is_wide size ≡ false → (x : Text scope Exact size n a) → convert x.base Int x.k ≡ n
        same bit n a narrow x = ap (convert x.base Int) x.means ∙ kept bit x.base n x.is x.fits
        same byte n a narrow x = ap (convert x.base Int) x.means ∙ kept byte x.base n x.is x.fits
        same word n a narrow x = absurd (true≢false narrow)
        same long n a narrow x = absurd (true≢false narrow)

    -- bit by bit: the same at each width
    module _ (free : (width other n m : ℕ) → g width n m ≡ g other n m) where
      exact-bits : (n m : ℕ) (a b : Expr) → Text scope Exact bit n a → Text scope Exact bit m b → Text scope Exact bit (g 1 n m) (Binary operator a b)
      exact-bits n m a b x y =
          let fits = sums.fits 1 n m x.fits y.fits in
          from-number scope Exact bit Int (g 1 n m) (g 1 n m) _ refl (omega (arith, fits)) fits
          (subst (λ k. IsNumber scope Int k (Binary operator a b)) (sums.is Int n m ∙ free 16 1 n m) (exact-number bit n m a b refl x y)) refl

      exact-bytes : (n m : ℕ) (a b : Expr) → Text scope Exact byte n a → Text scope Exact byte m b → Text scope Exact byte (g 8 n m) (Binary operator a b)
      exact-bytes n m a b x y =
          let fits = sums.fits 8 n m x.fits y.fits in
          from-number scope Exact byte Int (g 8 n m) (g 8 n m) _ refl (omega (arith, fits)) fits
          (subst (λ k. IsNumber scope Int k (Binary operator a b)) (sums.is Int n m ∙ free 16 8 n m) (exact-number byte n m a b refl x y)) refl

      pub bitwise-sum : (way : Way) (size : Size) (n m : ℕ) (a b : Expr) → Text scope (bitwise way (bits size)) size n a → Text scope (bitwise way (bits size)) size m b
          → Text scope (bitwise way (bits size)) size (g (bits size) n m) (Binary operator a b)
      bitwise-sum way word n m a b x y = wide-sum way word n m a b refl x y
      bitwise-sum way long n m a b x y = wide-sum way long n m a b refl x y
      bitwise-sum Low bit n m a b x y = bit-sum n m a b x y
      bitwise-sum Low byte n m a b x y = byte-sum n m a b x y
      bitwise-sum Exact bit n m a b x y = exact-bits n m a b x y
      bitwise-sum Exact byte n m a b x y = exact-bytes n m a b x y
      bitwise-sum Signed bit n m a b x y = exact-bits n m a b x y
      bitwise-sum Signed byte n m a b x y = exact-bytes n m a b x y

  -- The operators.

  pub add-text : (way : Way) (size : Size) (n m : ℕ) (a b : Expr) → Text scope (carried way (bits size)) size n a → Text scope (carried way (bits size)) size m b
      → Text scope (carried way (bits size)) size (inner.binary_value AddOp (bits size) n m) (Binary Add a b)
  add-text = carried-sum Add _ _ add-sums

  pub sub-text : (way : Way) (size : Size) (n m : ℕ) (a b : Expr) → Text scope (carried way (bits size)) size n a → Text scope (carried way (bits size)) size m b
      → Text scope (carried way (bits size)) size (inner.binary_value SubOp (bits size) n m) (Binary Sub a b)
  sub-text = carried-sum Sub _ _ sub-sums

  pub mul-text : (way : Way) (size : Size) (n m : ℕ) (a b : Expr) → Text scope (carried way (bits size)) size n a → Text scope (carried way (bits size)) size m b
      → Text scope (carried way (bits size)) size (inner.binary_value MulOp (bits size) n m) (Binary Mul a b)
  mul-text = carried-sum Mul _ _ mul-sums

  pub and-text : (way : Way) (size : Size) (n m : ℕ) (a b : Expr) → Text scope (bitwise way (bits size)) size n a → Text scope (bitwise way (bits size)) size m b
      → Text scope (bitwise way (bits size)) size (inner.binary_value AndOp (bits size) n m) (Binary And a b)
  and-text = bitwise-sum And _ _ and-sums (λ width other n m. refl)

  pub or-text : (way : Way) (size : Size) (n m : ℕ) (a b : Expr) → Text scope (bitwise way (bits size)) size n a → Text scope (bitwise way (bits size)) size m b
      → Text scope (bitwise way (bits size)) size (inner.binary_value OrOp (bits size) n m) (Binary Or a b)
  or-text = bitwise-sum Or _ _ or-sums (λ width other n m. refl)

  pub xor-text : (way : Way) (size : Size) (n m : ℕ) (a b : Expr) → Text scope (bitwise way (bits size)) size n a → Text scope (bitwise way (bits size)) size m b
      → Text scope (bitwise way (bits size)) size (inner.binary_value XorOp (bits size) n m) (Binary Xor a b)
  xor-text = bitwise-sum Xor _ _ xor-sums (λ width other n m. refl)
