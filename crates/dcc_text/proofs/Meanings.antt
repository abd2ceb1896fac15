-- What an expression of a text means: its type and its value.
use Rattle.std.proofs.Common.{◌≡◌, ℕ, ◌%◌, ◌^◌, ◌<◌, ◌≤◌, true, map, Some, None, refl, ap, ◌∙◌, subst, arith, mod-eq_of_lt}
use Rattle.std.specs.Prelude.{bit_and}
use Rattle.std.proofs.lemmas.Nat.{and_mask}
use Rattle.std.proofs.lemmas.Bool.Decides.{nat_tests}
use Rattle.dcc_c.specs.declared.syntax.Base.{Base}
use Rattle.dcc_c.specs.declared.syntax.Base.TheVariants.{Uchar, Int, Uint, Ulong}
use Rattle.dcc_c.specs.declared.syntax.CUn.{CUn}
use Rattle.dcc_c.specs.declared.syntax.CBin.{CBin}
use Rattle.dcc_c.specs.declared.syntax.CBin.TheVariants.{And as BitAnd}
use Rattle.dcc_c.specs.Types.{common_type, extended_bits, convert, plain}
use Rattle.dcc_c.specs.Tree.{Expr, Binary, Cast}
use Rattle.dcc_c.specs.Typing.{type_of, both_types, numbers_type}
use Rattle.dcc_c.specs.Value.{Value, number, converted, Outcome, Gives, and_then, Scope, declared_by, both_values, numbers_value, unary_value, value_of}
use Rattle.dcc_text.specs.Spelled.{small, cut}
use Rattle.dcc_text.proofs.Sizes.{Size, bit, byte, word, long, bits, holds, reckons, common-is, kept}

-- the expression has the type, and its value these bits
pub record IsNumber (scope : Scope) (base : Base) (n : ℕ) (e : Expr) : Type 0 where
  pub typed : type_of (map declared_by scope.variables) e ≡ Some (plain base)
  pub valued : value_of scope e ≡ Gives (number base n)

-- the expression gives a number of the size, in a type that holds such numbers
pub record Means (scope : Scope) (size : Size) (n : ℕ) (e : Expr) : Type 0 where
  pub base : Base
  pub is : holds size base ≡ true
  pub number_is : IsNumber scope base n e
  pub fits : n < 2 ^ bits size

-- Operands.

module _ (scope : Scope) where
  -- a unary operator is given what its operand gives
  pub unary-valued : (operator : CUn) (a : Base) (n : ℕ) (e : Expr) → IsNumber scope a n e
      → and_then (unary_value operator) (value_of scope e) ≡ unary_value operator (number a n)
  unary-valued operator a n e is = ap (and_then (unary_value operator)) is.valued

  -- a binary operator is given what its operands give
  pub binary-valued : (operator : CBin) (a b : Base) (n m : ℕ) (e f : Expr) → IsNumber scope a n e → IsNumber scope b m f
      → and_then (λ v. and_then (both_values operator v) (value_of scope f)) (value_of scope e) ≡ numbers_value operator a n b m
  binary-valued operator a b n m e f is also =
      ap (and_then (λ v. and_then (both_values operator v) (value_of scope f))) is.valued
      ∙ ap (and_then (both_values operator (number a n))) also.valued

  pub binary-typed : (operator : CBin) (a b : Base) (n m : ℕ) (e f : Expr) → IsNumber scope a n e → IsNumber scope b m f
      → type_of (map declared_by scope.variables) (Binary operator e f) ≡ Some (plain (numbers_type operator a b))
  binary-typed operator a b n m e f is also =
      let names = map declared_by scope.variables in
      ap (λ t. both_types operator t (type_of names f)) is.typed ∙ ap (both_types operator (Some (plain a))) also.typed

  pub small-number : (n : ℕ) → n < 65536 → IsNumber scope Int n (small n)
  small-number n fits = record { typed = refl; valued = ap (λ m. Gives (number Int m)) (mod-eq_of_lt fits) }

  pub cast-number : (to from : Base) (n : ℕ) (e : Expr) → IsNumber scope from n e → IsNumber scope to (convert from to n) (Cast (plain to) e)
  cast-number to from n e is = record {
    typed = ap (elim [ Some type ↦ Some (plain to) | None ↦ None ]) is.typed;
    valued = ap (and_then (λ v. Gives (converted (plain to) v))) is.valued;
  }

  -- the low bit of a byte
  pub low-bit : (n : ℕ) (e : Expr) → IsNumber scope Uchar n e → n < 256 → IsNumber scope Int (n % 2) (Binary BitAnd e (small 1))
  low-bit n e is fits =
      let one : IsNumber scope Int 1 (small 1) = small-number 1 (omega arith) in record {
        typed = binary-typed BitAnd Uchar Int n 1 e (small 1) is one;
        valued = binary-valued BitAnd Uchar Int n 1 e (small 1) is one
            ∙ ap (λ m. Gives (number Int m)) (ap (λ m. bit_and m 1) (mod-eq_of_lt (let f : n < 65536 = omega (arith, fits) in f)) ∙ and_mask n 1);
      }

  -- Cutting.

  -- the low bits of a value
  pub cut-means : (size : Size) (base : Base) (n : ℕ) (e : Expr) → IsNumber scope base n e → Means scope size (extended_bits base n % 2 ^ bits size) (cut (bits size) e)
  cut-means bit base n e is =
      let x = extended_bits base n in
      let below : x % 256 < 256 = omega arith in
      let same : x % 256 % 2 ≡ x % 2 = omega arith in
      record {
        base = Int;
        is = refl;
        number_is = subst (λ m. IsNumber scope Int m (cut 1 e)) same (low-bit (x % 256) (Cast (plain Uchar) e) (cast-number Uchar base n e is) below);
        fits = omega arith;
      }
  cut-means byte base n e is = record { base = Uchar; is = refl; number_is = cast-number Uchar base n e is; fits = omega arith }
  cut-means word base n e is = record { base = Uint; is = refl; number_is = cast-number Uint base n e is; fits = omega arith }
  cut-means long base n e is = record { base = Ulong; is = refl; number_is = cast-number Ulong base n e is; fits = omega arith }

  -- the low bits of an int are not changed by its sign
  pub int-low : (size : Size) (n : ℕ) → bits size ≤ 8 → extended_bits Int n % 2 ^ bits size ≡ n % 2 ^ bits size
  int-low bit n low = grind (arith, nat_tests)
  int-low byte n low = grind (arith, nat_tests)
  int-low word n low = absurd (omega (arith, low))
  int-low long n low = absurd (omega (arith, low))

  -- The operands of an operator, in the type in which it reckons.

  pub reckoned : (f : Base → ℕ → ℕ → Outcome Value) (size : Size) (a b : Base) (n m : ℕ) → holds size a ≡ true → holds size b ≡ true → n < 2 ^ bits size → m < 2 ^ bits size
      → f (common_type a b) (convert a (common_type a b) n) (convert b (common_type a b) m) ≡ f (reckons size) n m
  reckoned f size a b n m is also fits small =
      ap (λ t. f t (convert a t n) (convert b t m)) (common-is size a b is also)
      ∙ ap (λ k. f (reckons size) k (convert b (reckons size) m)) (kept size a n is fits)
      ∙ ap (f (reckons size) n) (kept size b m also small)
