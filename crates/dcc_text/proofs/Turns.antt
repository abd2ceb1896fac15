-- Numbers with the other sign, complements, and the test for 0.
use Rattle.std.proofs.Common.{◌≡◌, ℕ, ◌-◌, ◌%◌, ◌^◌, ◌<◌, Bool, true, false, refl, sym, ap, ap₂, ◌∙◌, subst, arith}
use Rattle.std.specs.Prelude.{bit_xor, not}
use Rattle.std.specs.Int.{from_bool}
use Rattle.dcc_ir.specs.declared.syntax.UnOp.TheVariants.{Neg, Not}
use Rattle.dcc_ir.specs.Value as inner
use Rattle.dcc_c.specs.declared.syntax.Base.TheVariants.{Int}
use Rattle.dcc_c.specs.declared.syntax.CUn.TheVariants.{Minus, Complement}
use Rattle.dcc_c.specs.declared.syntax.CBin.TheVariants.{Xor}
use Rattle.dcc_c.specs.Types.{convert}
use Rattle.dcc_c.specs.Arithmetic.{negated, complement}
use Rattle.dcc_c.specs.Tree.{Expr, Unary, Binary}
use Rattle.dcc_c.specs.Value.{Scope}
use Rattle.dcc_text.specs.Spelled.{Way, Low, Exact, Signed, small, carried, bitwise, operand_way, unary_text, flipped}
use Rattle.dcc_text.proofs.Sizes.{Size, bit, byte, word, long, bits}
use Rattle.dcc_text.proofs.Meanings.{IsNumber, small-number}
use Rattle.dcc_text.proofs.Reckoning.{negated-number, complement-number}
use Rattle.dcc_text.proofs.Ways.{Text, from-number, lowered}
use Rattle.dcc_text.proofs.Wide.{is_wide, wide-bits, wide-promoted, wide-kept, wide-number, wide-text, narrow-promoted, int-kept, int-room}
use Rattle.dcc_text.proofs.Operands.{exact-text}
use Rattle.dcc_text.proofs.Opposites.{IsTurned, turned-number, turned-cases}
use Rattle.dcc_text.proofs.Sums.{xor-text}

module _ (scope : Scope) where
  -- on words and longs, in each way
  wide-negated : (way : Way) (size : Size) (n : ℕ) (a : Expr) → is_wide size ≡ true → Text scope way size n a → Text scope way size (inner.unary_value Neg (bits size) n) (Unary Minus a)
  wide-negated way size n a wide x =
      let same = wide-bits way size x.base wide x.is in
      let is = negated-number scope x.base n a (wide-number scope way size wide n a x) in
      let there = subst (λ t. IsNumber scope t (negated t (convert x.base t n)) (Unary Minus a)) (wide-promoted way size x.base wide x.is) is in
      wide-text scope way size wide x.base (inner.unary_value Neg (bits size) n) (Unary Minus a) x.is (fit size wide)
      (subst (λ k. IsNumber scope x.base k (Unary Minus a))
      (ap (negated x.base) (wide-kept way size x.base x.base n wide x.is same x.fits) ∙ ap (λ w. (2 ^ w - n) % 2 ^ w) same) there)
    where
      fit : (size : Size) → is_wide size ≡ true → (2 ^ bits size - n) % 2 ^ bits size < 2 ^ bits size
      fit bit wide = omega arith
      fit byte wide = omega arith
      fit word wide = omega arith
      fit long wide = omega arith

  wide-complement : (way : Way) (size : Size) (n : ℕ) (a : Expr) → is_wide size ≡ true → Text scope way size n a → Text scope way size (2 ^ bits size - 1 - n) (Unary Complement a)
  wide-complement way size n a wide x =
      let same = wide-bits way size x.base wide x.is in
      let is = complement-number scope x.base n a (wide-number scope way size wide n a x) in
      let there = subst (λ t. IsNumber scope t (complement t (convert x.base t n)) (Unary Complement a)) (wide-promoted way size x.base wide x.is) is in
      wide-text scope way size wide x.base (2 ^ bits size - 1 - n) (Unary Complement a) x.is (fit size wide)
      (subst (λ k. IsNumber scope x.base k (Unary Complement a))
      (ap (complement x.base) (wide-kept way size x.base x.base n wide x.is same x.fits) ∙ ap (λ w. 2 ^ w - 1 - n) same) there)
    where
      fit : (size : Size) → is_wide size ≡ true → 2 ^ bits size - 1 - n < 2 ^ bits size
      fit bit wide = omega arith
      fit byte wide = omega arith
      fit word wide = omega arith
      fit long wide = omega arith

  -- on bits and bytes, as ints
  negated-bit : (j n : ℕ) → j < 65536 → j % 2 ≡ n → negated Int j % 2 ≡ (2 - n) % 2
  negated-bit j n room low = omega (arith, room, low)

  negated-byte : (j n : ℕ) → j < 65536 → j % 256 ≡ n → negated Int j % 256 ≡ (256 - n) % 256
  negated-byte j n room low = omega (arith, room, low)

  complement-byte : (j n : ℕ) → j < 65536 → j % 256 ≡ n → complement Int j % 256 ≡ 255 - n
  complement-byte j n room low = omega (arith, room, low)

  negated-room : (j : ℕ) → negated Int j < 65536
  negated-room j = omega arith

  complement-room : (j : ℕ) → complement Int j < 65536
  complement-room j = omega arith

  pub neg-text : (way : Way) (size : Size) (n : ℕ) (a : Expr) → Text scope (carried way (bits size)) size n a
      → Text scope (carried way (bits size)) size (inner.unary_value Neg (bits size) n) (Unary Minus a)
  neg-text way bit n a x =
      let j = convert x.base Int x.k in
      let is = subst (λ t. IsNumber scope t (negated t (convert x.base t x.k)) (Unary Minus a)) (narrow-promoted Low bit x.base refl x.is) (negated-number scope x.base x.k a x.number_is) in
      from-number scope Low bit Int (negated Int j) _ _ refl (negated-room j) (omega arith) is
      (ap (λ k. k % 2) (int-kept (negated Int j) (negated-room j)) ∙ negated-bit j n (int-room x.base x.k) x.means)
  neg-text way byte n a x =
      let j = convert x.base Int x.k in
      let is = subst (λ t. IsNumber scope t (negated t (convert x.base t x.k)) (Unary Minus a)) (narrow-promoted Low byte x.base refl x.is) (negated-number scope x.base x.k a x.number_is) in
      from-number scope Low byte Int (negated Int j) _ _ refl (negated-room j) (omega arith) is
      (ap (λ k. k % 256) (int-kept (negated Int j) (negated-room j)) ∙ negated-byte j n (int-room x.base x.k) x.means)
  neg-text way word n a x = wide-negated way word n a refl x
  neg-text way long n a x = wide-negated way long n a refl x

  -- one bit, turned over
  other-bit : (n : ℕ) → n < 2 → bit_xor n 1 ≡ 1 - n
  other-bit n fits = grind arith

  low : (b : Bool) → convert Int Int (from_bool b) % 2 ≡ from_bool b
  low true = refl
  low false = refl

  exact : (n : ℕ) (c : Expr) (b : Bool) → n ≡ from_bool b → IsNumber scope Int (from_bool (not b)) c → Text scope Exact bit (1 - n) c
  exact n c true is x = exact-text scope bit Int (1 - n) c refl (omega (arith, is)) (subst (λ k. IsNumber scope Int k c) (omega (arith, is)) x)
  exact n c false is x = exact-text scope bit Int (1 - n) c refl (omega (arith, is)) (subst (λ k. IsNumber scope Int k c) (omega (arith, is)) x)

  one-bit : (way : Way) → Text scope (bitwise way 1) bit 1 (small 1)
  one-bit Low = lowered scope Exact bit 1 (small 1) (exact-text scope bit Int 1 (small 1) refl (omega arith) (small-number scope 1 (omega arith)))
  one-bit Exact = exact-text scope bit Int 1 (small 1) refl (omega arith) (small-number scope 1 (omega arith))
  one-bit Signed = exact-text scope bit Int 1 (small 1) refl (omega arith) (small-number scope 1 (omega arith))

  -- the opposite of a comparison is the other bit
  opposite-text : (way : Way) (n : ℕ) (a c : Expr) → IsTurned a c → Text scope (bitwise way 1) bit n a → Text scope (bitwise way 1) bit (1 - n) c
  opposite-text Low n a c o x =
      let z = turned-number scope a c x.base x.k o x.number_is in
      let same = sym x.means ∙ ap₂ (λ b k. convert b Int k % 2) z.is_int z.is ∙ low z.told in
      lowered scope Exact bit (1 - n) c (exact n c z.told same z.opposite)
  opposite-text Exact n a c o x =
      let z = turned-number scope a c x.base x.k o x.number_is in exact n c z.told (sym x.means ∙ z.is) z.opposite
  opposite-text Signed n a c o x =
      let z = turned-number scope a c x.base x.k o x.number_is in exact n c z.told (sym x.means ∙ z.is) z.opposite

  pub not-text : (way : Way) (size : Size) (n : ℕ) (a : Expr) → Text scope (operand_way Not way (bits size)) size n a
      → Text scope (operand_way Not way (bits size)) size (inner.unary_value Not (bits size) n) (unary_text Not (bits size) a)
  not-text way bit n a x =
      turned-cases (Text scope (bitwise way 1) bit (1 - n)) flipped a
      (subst (λ k. Text scope (bitwise way 1) bit k (Binary Xor a (small 1))) (other-bit n x.fits) (xor-text scope way bit n 1 a (small 1) x (one-bit way)))
      (λ c o. opposite-text way n a c o x)
  not-text way byte n a x =
      let j = convert x.base Int x.k in
      let is = subst (λ t. IsNumber scope t (complement t (convert x.base t x.k)) (Unary Complement a)) (narrow-promoted Low byte x.base refl x.is) (complement-number scope x.base x.k a x.number_is) in
      from-number scope Low byte Int (complement Int j) _ _ refl (complement-room j) (omega arith) is
      (ap (λ k. k % 256) (int-kept (complement Int j) (complement-room j)) ∙ complement-byte j n (int-room x.base x.k) x.means)
  not-text way word n a x = wide-complement way word n a refl x
  not-text way long n a x = wide-complement way long n a refl x
