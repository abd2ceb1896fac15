-- What the text of an expression gives, in its way, and how it is taken in another.
use Rattle.std.proofs.Common.{◌≡◌, ℕ, ◌%◌, ◌^◌, ◌<◌, Bool, true, false, refl, sym, ap, ◌∙◌, subst, true≢false, arith, mod-eq_of_lt}
use Rattle.std.proofs.lemmas.Bool.Decides.{nat_tests}
use Rattle.dcc_c.specs.declared.syntax.Base.{Base}
use Rattle.dcc_c.specs.declared.syntax.Base.TheVariants.{Schar, Uchar, Int, Uint, Long, Ulong}
use Rattle.dcc_c.specs.declared.syntax.CUn.TheVariants.{Minus}
use Rattle.dcc_c.specs.Types.{bits_of, extended_bits, convert, plain}
use Rattle.dcc_c.specs.Arithmetic.{negated}
use Rattle.dcc_c.specs.Tree.{Expr, Unary, Cast}
use Rattle.dcc_c.specs.Value.{Scope}
use Rattle.dcc_text.specs.Spelled.{Way, Low, Exact, Signed, cut, signed_reading, cut_to, taken}
use Rattle.dcc_text.proofs.Sizes.{Size, bit, byte, word, long, bits, holds, kept}
use Rattle.dcc_text.proofs.Meanings.{IsNumber, cast-number, low-bit}
use Rattle.dcc_text.proofs.Reckoning.{negated-number}
use Rattle.dcc_text.proofs.Signs.{signed_bits, schar-signed}

-- numbers of a size in a way may have the type
abbrev pub carries : Way → Size → Base → Bool
carries Exact size base = holds size base
carries Low bit Schar = true
carries Low bit Uchar = true
carries Low bit Int = true
carries Low byte Schar = true
carries Low byte Uchar = true
carries Low byte Int = true
carries Low word Int = true
carries Low word Uint = true
carries Low long Long = true
carries Low long Ulong = true
carries Signed bit Int = true
carries Signed byte Schar = true
carries Signed byte Int = true
carries Signed word Int = true
carries Signed long Long = true
carries way size base = false

-- Bits of the type are the number of the size, in the way: those of words and longs are the number's own.
abbrev pub Meaning : Way → Size → Base → ℕ → ℕ → Type 0
Meaning way word base k n = k ≡ n
Meaning way long base k n = k ≡ n
Meaning Exact size base k n = k ≡ n
Meaning Low size base k n = convert base Int k % 2 ^ bits size ≡ n
Meaning Signed size base k n = convert base Int k ≡ signed_bits size n

-- the expression gives a number of the size, in the way
pub record Text (scope : Scope) (way : Way) (size : Size) (n : ℕ) (e : Expr) : Type 0 where
  pub base : Base
  pub k : ℕ
  pub is : carries way size base ≡ true
  pub room : k < 2 ^ bits_of base
  pub number_is : IsNumber scope base k e
  pub means : Meaning way size base k n
  pub fits : n < 2 ^ bits size

-- Low bits.

pub carries-low : (way : Way) (size : Size) (base : Base) → carries way size base ≡ true → carries Low size base ≡ true
carries-low Low size base is = is
carries-low Exact bit Uchar is = refl
carries-low Exact bit Int is = refl
carries-low Exact byte Uchar is = refl
carries-low Exact byte Int is = refl
carries-low Exact word Uint is = refl
carries-low Exact long Ulong is = refl
carries-low Signed bit Int is = refl
carries-low Signed byte Schar is = refl
carries-low Signed byte Int is = refl
carries-low Signed word Int is = refl
carries-low Signed long Long is = refl
carries-low way size base is = absurd (true≢false (sym is))

signed-low-bit : (n : ℕ) → n < 2 → signed_bits bit n % 2 ≡ n
signed-low-bit n fits = grind (arith, nat_tests)

signed-low-byte : (n : ℕ) → n < 256 → signed_bits byte n % 256 ≡ n
signed-low-byte n fits = grind (arith, nat_tests)

pub means-low : (way : Way) (size : Size) (base : Base) (k n : ℕ) → carries way size base ≡ true → n < 2 ^ bits size → Meaning way size base k n → Meaning Low size base k n
means-low way word base k n is fits means = means
means-low way long base k n is fits means = means
means-low Low size base k n is fits means = means
means-low Exact bit base k n is fits means = ap (λ j. convert base Int j % 2) means ∙ ap (λ j. j % 2) (kept bit base n is fits) ∙ mod-eq_of_lt fits
means-low Exact byte base k n is fits means = ap (λ j. convert base Int j % 256) means ∙ ap (λ j. j % 256) (kept byte base n is fits) ∙ mod-eq_of_lt fits
means-low Signed bit base k n is fits means = ap (λ j. j % 2) means ∙ signed-low-bit n fits
means-low Signed byte base k n is fits means = ap (λ j. j % 256) means ∙ signed-low-byte n fits

-- a word or a long under a cast to a type of its size
pub word-cast : (base : Base) (n : ℕ) → carries Low word base ≡ true → n < 65536 → extended_bits base n % 65536 ≡ n
word-cast Int n is fits = grind (arith, nat_tests)
word-cast Uint n is fits = mod-eq_of_lt fits
word-cast base n is fits = absurd (true≢false (sym is))

pub long-cast : (base : Base) (n : ℕ) → carries Low long base ≡ true → n < 4294967296 → extended_bits base n % 4294967296 ≡ n
long-cast Long n is fits = grind (arith, nat_tests)
long-cast Ulong n is fits = mod-eq_of_lt fits
long-cast base n is fits = absurd (true≢false (sym is))

-- a text of a type that carries such numbers, with these bits
abbrev pub from-number : (scope : Scope) (way : Way) (size : Size) (base : Base) (k n : ℕ) (e : Expr) → carries way size base ≡ true → k < 2 ^ bits_of base → n < 2 ^ bits size
    → IsNumber scope base k e → Meaning way size base k n → Text scope way size n e
from-number scope way size base k n e is room fits x means =
    record { base = base; k = k; is = is; room = room; number_is = x; means = means; fits = fits }

module _ (scope : Scope) where
  -- Low bits are those of a number in any way.
  abbrev pub lowered : (way : Way) (size : Size) (n : ℕ) (e : Expr) → Text scope way size n e → Text scope Low size n e
  lowered way size n e x =
      from-number scope Low size x.base x.k n e (carries-low way size x.base x.is) x.room x.fits x.number_is (means-low way size x.base x.k n x.is x.fits x.means)

  -- under a cast to this type the expression has these bits
  cast-is : (to from : Base) (k n : ℕ) (e : Expr) → IsNumber scope from k e → convert from to k ≡ n → IsNumber scope to n (Cast (plain to) e)
  cast-is to from k n e x same = subst (λ j. IsNumber scope to j (Cast (plain to) e)) same (cast-number scope to from k e x)

  byte-cast : (x n : ℕ) → x % 65536 % 256 ≡ n → x % 256 ≡ n
  byte-cast x n low = omega (arith, low)

  bit-cast : (x n : ℕ) → x % 65536 % 2 ≡ n → x % 256 % 2 ≡ n
  bit-cast x n low = omega (arith, low)

  pub cut-low : (size : Size) (n : ℕ) (e : Expr) → Text scope Low size n e → Text scope Exact size n (cut (bits size) e)
  cut-low bit n e x =
      let j = extended_bits x.base x.k in
      let is = low-bit scope (j % 256) (Cast (plain Uchar) e) (cast-number scope Uchar x.base x.k e x.number_is) (omega arith) in
      from-number scope Exact bit Int n n _ refl (let f = x.fits in omega (arith, f)) x.fits
      (subst (λ m. IsNumber scope Int m (cut 1 e)) (bit-cast j n x.means) is) refl
  cut-low byte n e x =
      from-number scope Exact byte Uchar n n _ refl x.fits x.fits
      (cast-is Uchar x.base x.k n e x.number_is (byte-cast (extended_bits x.base x.k) n x.means)) refl
  cut-low word n e x =
      from-number scope Exact word Uint n n _ refl x.fits x.fits
      (cast-is Uint x.base x.k n e x.number_is (ap (λ j. convert x.base Uint j) x.means ∙ word-cast x.base n x.is x.fits)) refl
  cut-low long n e x =
      from-number scope Exact long Ulong n n _ refl x.fits x.fits
      (cast-is Ulong x.base x.k n e x.number_is (ap (λ j. convert x.base Ulong j) x.means ∙ long-cast x.base n x.is x.fits)) refl

  minus-bit : (n : ℕ) → n < 2 → convert Int Int (negated Int n) ≡ signed_bits bit n
  minus-bit n fits = grind (arith, nat_tests)

  pub negative-bit : (n : ℕ) (e : Expr) → Text scope Exact bit n e → Text scope Signed bit n (Unary Minus e)
  negative-bit n e x =
      at x.base x.is (subst (λ j. IsNumber scope x.base j e) x.means x.number_is)
    where
      at : (base : Base) → holds bit base ≡ true → IsNumber scope base n e → Text scope Signed bit n (Unary Minus e)
      at Uchar is y =
          from-number scope Signed bit Int (negated Int n) n _ refl (omega arith) x.fits
          (subst (λ j. IsNumber scope Int (negated Int j) (Unary Minus e)) (kept bit Uchar n refl x.fits) (negated-number scope Uchar n e y)) (minus-bit n x.fits)
      at Int is y =
          from-number scope Signed bit Int (negated Int n) n _ refl (omega arith) x.fits
          (subst (λ j. IsNumber scope Int (negated Int j) (Unary Minus e)) (kept bit Int n refl x.fits) (negated-number scope Int n e y)) (minus-bit n x.fits)
      at base is y = absurd (true≢false (sym is))

  pub cut-signed : (size : Size) (n : ℕ) (e : Expr) → Text scope Low size n e → Text scope Signed size n (cut_to Signed (bits size) e)
  cut-signed bit n e x = negative-bit n (cut 1 e) (cut-low bit n e x)
  cut-signed byte n e x =
      from-number scope Signed byte Schar n n _ refl x.fits x.fits
      (cast-is Schar x.base x.k n e x.number_is (byte-cast (extended_bits x.base x.k) n x.means)) (schar-signed n x.fits)
  cut-signed word n e x =
      from-number scope Signed word Int n n _ refl x.fits x.fits
      (cast-is Int x.base x.k n e x.number_is (ap (λ j. convert x.base Int j) x.means ∙ word-cast x.base n x.is x.fits)) refl
  cut-signed long n e x =
      from-number scope Signed long Long n n _ refl x.fits x.fits
      (cast-is Long x.base x.k n e x.number_is (ap (λ j. convert x.base Long j) x.means ∙ long-cast x.base n x.is x.fits)) refl

  pub read-signed : (size : Size) (n : ℕ) (e : Expr) → Text scope Exact size n e → Text scope Signed size n (signed_reading (bits size) e)
  read-signed bit n e x = negative-bit n e x
  read-signed byte n e x = cut-signed byte n e (lowered Exact byte n e x)
  read-signed word n e x = cut-signed word n e (lowered Exact word n e x)
  read-signed long n e x = cut-signed long n e (lowered Exact long n e x)

  -- What is given in one way is taken in another.
  pub taken-means : (have want : Way) (size : Size) (n : ℕ) (e : Expr) → Text scope have size n e → Text scope want size n (taken have want (bits size) e)
  taken-means have Low size n e x = lowered have size n e x
  taken-means Exact Exact size n e x = x
  taken-means Exact Signed size n e x = read-signed size n e x
  taken-means Low Exact size n e x = cut-low size n e x
  taken-means Low Signed size n e x = cut-signed size n e x
  taken-means Signed Exact size n e x = cut-low size n e (lowered Signed size n e x)
  taken-means Signed Signed size n e x = x

  -- low bits, by a cut in a way
  pub cut-means-to : (want : Way) (size : Size) (n : ℕ) (e : Expr) → Text scope Low size n e → Text scope want size n (cut_to want (bits size) e)
  cut-means-to Low size n e x = lowered Exact size n _ (cut-low size n e x)
  cut-means-to Exact size n e x = cut-low size n e x
  cut-means-to Signed size n e x = cut-signed size n e x
