-- Words and longs: in each way the bits of their types are the number's own; and bits and bytes, on which operators
-- reckon as ints.
use Rattle.std.proofs.Common.{◌≡◌, ℕ, ◌%◌, ◌^◌, ◌<◌, Bool, true, false, refl, sym, ap, ap₂, ◌∙◌, subst, true≢false, arith}
use Rattle.std.proofs.lemmas.Bool.Decides.{nat_tests}
use Rattle.dcc_c.specs.declared.syntax.Base.{Base}
use Rattle.dcc_c.specs.declared.syntax.Base.TheVariants.{Schar, Uchar, Int, Uint, Long, Ulong}
use Rattle.dcc_c.specs.Types.{bits_of, promoted_type, common_of_promoted, common_type, extended_bits, convert}
use Rattle.dcc_c.specs.Tree.{Expr}
use Rattle.dcc_c.specs.Value.{Scope}
use Rattle.dcc_text.specs.Spelled.{Way, Low, Exact, Signed}
use Rattle.dcc_text.proofs.Sizes.{Size, bit, byte, word, long, bits}
use Rattle.dcc_text.proofs.Meanings.{IsNumber}
use Rattle.dcc_text.proofs.Ways.{carries, Meaning, Text, carries-low, word-cast, long-cast}

abbrev pub is_wide : Size → Bool
is_wide word = true
is_wide long = true
is_wide size = false

-- Words and longs.

-- the type of a word or a long has the number's own bits, and operators reckon in it as it stands
wide-type : (way : Way) (size : Size) (base : Base) → is_wide size ≡ true → carries way size base ≡ true → (bits_of base ≡ bits size) × (promoted_type base ≡ base)
wide-type way size base wide is = at size base wide (carries-low way size base is)
  where
    at : (size : Size) (base : Base) → is_wide size ≡ true → carries Low size base ≡ true → (bits_of base ≡ bits size) × (promoted_type base ≡ base)
    at word Int wide is = (refl, refl)
    at word Uint wide is = (refl, refl)
    at long Long wide is = (refl, refl)
    at long Ulong wide is = (refl, refl)
    at word base wide is = absurd (true≢false (sym is))
    at long base wide is = absurd (true≢false (sym is))
    at size base wide is = absurd (true≢false (sym wide))

pub wide-bits : (way : Way) (size : Size) (base : Base) → is_wide size ≡ true → carries way size base ≡ true → bits_of base ≡ bits size
wide-bits way size base wide is = (wide-type way size base wide is).0

pub wide-promoted : (way : Way) (size : Size) (base : Base) → is_wide size ≡ true → carries way size base ≡ true → promoted_type base ≡ base
wide-promoted way size base wide is = (wide-type way size base wide is).1

pub wide-common : (way : Way) (size : Size) (a b : Base) → is_wide size ≡ true → carries way size a ≡ true → carries way size b ≡ true → carries way size (common_type a b) ≡ true
wide-common Low word Int Int wide is also = refl
wide-common Low word Int Uint wide is also = refl
wide-common Low word Uint Int wide is also = refl
wide-common Low word Uint Uint wide is also = refl
wide-common Low word Int b wide is also = absurd (true≢false (sym also))
wide-common Low word Uint b wide is also = absurd (true≢false (sym also))
wide-common Low long Long Long wide is also = refl
wide-common Low long Long Ulong wide is also = refl
wide-common Low long Ulong Long wide is also = refl
wide-common Low long Ulong Ulong wide is also = refl
wide-common Low long Long b wide is also = absurd (true≢false (sym also))
wide-common Low long Ulong b wide is also = absurd (true≢false (sym also))
wide-common Exact word Uint Uint wide is also = refl
wide-common Exact word Uint b wide is also = absurd (true≢false (sym also))
wide-common Exact long Ulong Ulong wide is also = refl
wide-common Exact long Ulong b wide is also = absurd (true≢false (sym also))
wide-common Signed word Int Int wide is also = refl
wide-common Signed word Int b wide is also = absurd (true≢false (sym also))
wide-common Signed long Long Long wide is also = refl
wide-common Signed long Long b wide is also = absurd (true≢false (sym also))
wide-common way bit a b wide is also = absurd (true≢false (sym wide))
wide-common way byte a b wide is also = absurd (true≢false (sym wide))
wide-common way size a b wide is also = absurd (true≢false (sym is))

-- a word or a long stays the same number in each type of its size
pub wide-kept : (way : Way) (size : Size) (a c : Base) (n : ℕ) → is_wide size ≡ true → carries way size a ≡ true → bits_of c ≡ bits size → n < 2 ^ bits size → convert a c n ≡ n
wide-kept way size a c n wide is same fits = ap (λ w. extended_bits a n % 2 ^ w) same ∙ at size wide (carries-low way size a is) fits
  where
    at : (size : Size) → is_wide size ≡ true → carries Low size a ≡ true → n < 2 ^ bits size → extended_bits a n % 2 ^ bits size ≡ n
    at word wide is fits = word-cast a n is fits
    at long wide is fits = long-cast a n is fits
    at size wide is fits = absurd (true≢false (sym wide))

pub wide-means : (way : Way) (size : Size) (base : Base) (k n : ℕ) → is_wide size ≡ true → Meaning way size base k n → k ≡ n
wide-means way word base k n wide means = means
wide-means way long base k n wide means = means
wide-means way bit base k n wide means = absurd (true≢false (sym wide))
wide-means way byte base k n wide means = absurd (true≢false (sym wide))

pub wide-meaning : (way : Way) (size : Size) (base : Base) (n : ℕ) → is_wide size ≡ true → Meaning way size base n n
wide-meaning way word base n wide = refl
wide-meaning way long base n wide = refl
wide-meaning way bit base n wide = absurd (true≢false (sym wide))
wide-meaning way byte base n wide = absurd (true≢false (sym wide))

module _ (scope : Scope) (way : Way) (size : Size) (wide : is_wide size ≡ true) where
  -- the number itself is that of the expression
  pub wide-number : (n : ℕ) (e : Expr) → (x : Text scope way size n e) → IsNumber scope x.base n e
  wide-number n e x = subst (λ k. IsNumber scope x.base k e) (wide-means way size x.base x.k n wide x.means) x.number_is

  pub wide-text : (base : Base) (n : ℕ) (e : Expr) → carries way size base ≡ true → n < 2 ^ bits size → IsNumber scope base n e → Text scope way size n e
  wide-text base n e is fits x = record {
    base = base;
    k = n;
    is = is;
    room = subst (λ w. n < 2 ^ w) (sym (wide-bits way size base wide is)) fits;
    number_is = x;
    means = wide-meaning way size base n wide;
    fits = fits;
  }

-- Bits and bytes.

pub narrow-promoted : (way : Way) (size : Size) (base : Base) → is_wide size ≡ false → carries way size base ≡ true → promoted_type base ≡ Int
narrow-promoted way size base narrow is = at size base narrow (carries-low way size base is)
  where
    at : (size : Size) (base : Base) → is_wide size ≡ false → carries Low size base ≡ true → promoted_type base ≡ Int
    at bit Schar narrow is = refl
    at bit Uchar narrow is = refl
    at bit Int narrow is = refl
    at byte Schar narrow is = refl
    at byte Uchar narrow is = refl
    at byte Int narrow is = refl
    at bit base narrow is = absurd (true≢false (sym is))
    at byte base narrow is = absurd (true≢false (sym is))
    at size base narrow is = absurd (true≢false narrow)

pub narrow-common : (one other : Way) (size : Size) (a b : Base) → is_wide size ≡ false → carries one size a ≡ true → carries other size b ≡ true → common_type a b ≡ Int
narrow-common one other size a b narrow is also =
    ap₂ common_of_promoted (narrow-promoted one size a narrow is) (narrow-promoted other size b narrow also)

-- an int's bits stay the same
pub int-kept : (k : ℕ) → k < 65536 → convert Int Int k ≡ k
int-kept k room = grind (arith, nat_tests)

pub int-room : (a : Base) (k : ℕ) → convert a Int k < 65536
int-room a k = omega arith
