-- A choice between two numbers of a size.
use Rattle.std.proofs.Common.{◌≡◌, ℕ, zero, suc, ◌%◌, ◌^◌, ◌<◌, ◌⊎◌, inl, inr, Bool, true, false, map, Some, refl, sym, ap, ap₂, ◌∙◌, subst, true≢false, arith}
use Rattle.std.specs.Prelude.{if◌then◌else◌, ◌==◌}
use Rattle.std.proofs.lemmas.Nat.{mod_below, pow_pos}
use Rattle.dcc_c.specs.declared.syntax.Base.{Base}
use Rattle.dcc_c.specs.declared.syntax.Base.TheVariants.{Int}
use Rattle.dcc_c.specs.Types.{bits_of, common_type, extended_bits, convert, plain}
use Rattle.dcc_c.specs.Tree.{Expr, Conditional}
use Rattle.dcc_c.specs.Typing.{type_of, both_arms_type, tested_type}
use Rattle.dcc_c.specs.Value.{number, converted, Gives, and_then, Scope, declared_by, chosen, value_of}
use Rattle.dcc_text.specs.Spelled.{Way, Low, Exact, Signed}
use Rattle.dcc_text.proofs.Sizes.{Size, bit, byte, word, long, bits, kept}
use Rattle.dcc_text.proofs.Meanings.{IsNumber}
use Rattle.dcc_text.proofs.Ways.{carries, Meaning, Text}
use Rattle.dcc_text.proofs.Wide.{is_wide, wide-bits, wide-common, wide-kept, narrow-common, int-kept, int-room}
use Rattle.dcc_text.proofs.Operands.{exact-number}

-- the common type of numbers of a size
record IsCommon (way : Way) (size : Size) (c : Base) : Type 0 where
  carried : carries way size c ≡ true
  int : is_wide size ≡ false → c ≡ Int

int-carries : (way : Way) (size : Size) → is_wide size ≡ false → carries way size Int ≡ true
int-carries Low bit narrow = refl
int-carries Low byte narrow = refl
int-carries Exact bit narrow = refl
int-carries Exact byte narrow = refl
int-carries Signed bit narrow = refl
int-carries Signed byte narrow = refl
int-carries way word narrow = absurd (true≢false narrow)
int-carries way long narrow = absurd (true≢false narrow)

common-of : (way : Way) (size : Size) (a b : Base) → carries way size a ≡ true → carries way size b ≡ true → IsCommon way size (common_type a b)
common-of way bit a b is also = record {
  carried = ap (carries way bit) (narrow-common way way bit a b refl is also) ∙ int-carries way bit refl;
  int = λ narrow. narrow-common way way bit a b refl is also;
}
common-of way byte a b is also = record {
  carried = ap (carries way byte) (narrow-common way way byte a b refl is also) ∙ int-carries way byte refl;
  int = λ narrow. narrow-common way way byte a b refl is also;
}
common-of way word a b is also = record { carried = wide-common way word a b refl is also; int = λ narrow. absurd (true≢false narrow) }
common-of way long a b is also = record { carried = wide-common way long a b refl is also; int = λ narrow. absurd (true≢false narrow) }

-- what one of two numbers is in their common type
arm-is : (way : Way) (size : Size) (a c : Base) (k n : ℕ) → carries way size a ≡ true → IsCommon way size c → n < 2 ^ bits size → Meaning way size a k n → Meaning way size c (convert a c k) n
arm-is way word a c k n is common fits means = ap (convert a c) means ∙ wide-kept way word a c n refl is (wide-bits way word c refl common.carried) fits
arm-is way long a c k n is common fits means = ap (convert a c) means ∙ wide-kept way long a c n refl is (wide-bits way long c refl common.carried) fits
arm-is way bit a c k n is common fits means = subst (λ t. Meaning way bit t (convert a t k) n) (sym (common.int refl)) (at way is means)
  where
    at : (way : Way) → carries way bit a ≡ true → Meaning way bit a k n → Meaning way bit Int (convert a Int k) n
    at Low is means = ap (λ j. j % 2) (int-kept (convert a Int k) (int-room a k)) ∙ means
    at Exact is means = ap (convert a Int) means ∙ kept bit a n is fits
    at Signed is means = int-kept (convert a Int k) (int-room a k) ∙ means
arm-is way byte a c k n is common fits means = subst (λ t. Meaning way byte t (convert a t k) n) (sym (common.int refl)) (at way is means)
  where
    at : (way : Way) → carries way byte a ≡ true → Meaning way byte a k n → Meaning way byte Int (convert a Int k) n
    at Low is means = ap (λ j. j % 256) (int-kept (convert a Int k) (int-room a k)) ∙ means
    at Exact is means = ap (convert a Int) means ∙ kept byte a n is fits
    at Signed is means = int-kept (convert a Int k) (int-room a k) ∙ means

module _ (scope : Scope) (way : Way) (size : Size) (t n m : ℕ) (test a b : Expr) (w : Text scope Exact bit t test) (x : Text scope way size n a) (y : Text scope way size m b) where
  abbrev c : Base
  c = common_type x.base y.base

  arms : both_arms_type (type_of (map declared_by scope.variables) a) (type_of (map declared_by scope.variables) b) ≡ Some (plain c)
  arms = ap₂ both_arms_type x.number_is.typed y.number_is.typed

  -- the bits of the chosen number in the common type
  abbrev chosen_bits : Bool → ℕ
  chosen_bits one_is = if one_is then convert x.base c x.k else convert y.base c y.k

  -- a bit is 1 or 0
  decides : (t : ℕ) → t < 2 → ((t == 0) ≡ false) × ((t == 1) ≡ true) ⊎ ((t == 0) ≡ true) × ((t == 1) ≡ false)
  decides zero low = inr (refl, refl)
  decides (suc zero) low = inl (refl, refl)
  decides (suc (suc k)) low = absurd (omega (arith, low))

  by : (zero_is one_is : Bool) → (zero_is ≡ false) × (one_is ≡ true) ⊎ (zero_is ≡ true) × (one_is ≡ false)
      → and_then (λ v. Gives (converted (plain c) v)) (if zero_is then value_of scope b else value_of scope a) ≡ Gives (number c (chosen_bits one_is))
  by zero_is one_is (inl p) = rw p.0 (rw p.1 (ap (and_then (λ v. Gives (converted (plain c) v))) x.number_is.valued))
  by zero_is one_is (inr p) = rw p.0 (rw p.1 (ap (and_then (λ v. Gives (converted (plain c) v))) y.number_is.valued))

  chosen-number : IsNumber scope c (chosen_bits (t == 1)) (Conditional test a b)
  chosen-number = record {
    typed = ap₂ tested_type w.number_is.typed arms;
    valued = ap₂ (λ type v. and_then (chosen type (value_of scope a) (value_of scope b)) v) arms (exact-number scope bit t test w).valued
        ∙ by (t == 0) (t == 1) (decides t w.fits);
  }

  pub choice-text : Text scope way size (if t == 1 then n else m) (Conditional test a b)
  choice-text =
      let common = common-of way size x.base y.base x.is y.is in record {
        base = c;
        k = chosen_bits (t == 1);
        is = common.carried;
        room = room (t == 1);
        number_is = chosen-number;
        means = means common (t == 1);
        fits = fits (t == 1);
      }
    where
      room : (one_is : Bool) → chosen_bits one_is < 2 ^ bits_of c
      room true = mod_below (extended_bits x.base x.k) (2 ^ bits_of c) (pow_pos (bits_of c))
      room false = mod_below (extended_bits y.base y.k) (2 ^ bits_of c) (pow_pos (bits_of c))

      means : IsCommon way size c → (one_is : Bool) → Meaning way size c (chosen_bits one_is) (if one_is then n else m)
      means common true = arm-is way size x.base c x.k n x.is common x.fits x.means
      means common false = arm-is way size y.base c y.k m y.is common y.fits y.means

      fits : (one_is : Bool) → (if one_is then n else m) < 2 ^ bits size
      fits true = x.fits
      fits false = y.fits
