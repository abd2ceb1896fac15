-- Exact and signed operands, in the types in which operators reckon on them.
use Rattle.std.proofs.Common.{◌≡◌, ℕ, ◌^◌, ◌<◌, true, refl, sym, ap, ◌∙◌, subst, true≢false, arith}
use Rattle.std.proofs.lemmas.Bool.Decides.{nat_tests}
use Rattle.dcc_c.specs.declared.syntax.Base.{Base}
use Rattle.dcc_c.specs.declared.syntax.Base.TheVariants.{Schar, Uchar, Int, Uint, Long, Ulong}
use Rattle.dcc_c.specs.Types.{bits_of, promoted_type, common_type, convert}
use Rattle.dcc_c.specs.Tree.{Expr}
use Rattle.dcc_c.specs.Value.{Scope}
use Rattle.dcc_text.specs.Spelled.{Exact, Signed}
use Rattle.dcc_text.proofs.Sizes.{Size, bit, byte, word, long, bits, holds}
use Rattle.dcc_text.proofs.Meanings.{IsNumber}
use Rattle.dcc_text.proofs.Signs.{signed_reckons, signed_bits}
use Rattle.dcc_text.proofs.Ways.{carries, Meaning, Text, from-number}
use Rattle.dcc_text.proofs.Wide.{int-kept}

pub exact-holds : (size : Size) (base : Base) → carries Exact size base ≡ true → holds size base ≡ true
exact-holds bit base is = is
exact-holds byte base is = is
exact-holds word base is = is
exact-holds long base is = is

-- the common type of signed numbers
pub signed-common : (size : Size) (a b : Base) → carries Signed size a ≡ true → carries Signed size b ≡ true → common_type a b ≡ signed_reckons size
signed-common bit Int Int is also = refl
signed-common byte Schar Schar is also = refl
signed-common byte Schar Int is also = refl
signed-common byte Int Schar is also = refl
signed-common byte Int Int is also = refl
signed-common word Int Int is also = refl
signed-common long Long Long is also = refl
signed-common bit Int b is also = absurd (true≢false (sym also))
signed-common byte Schar b is also = absurd (true≢false (sym also))
signed-common byte Int b is also = absurd (true≢false (sym also))
signed-common word Int b is also = absurd (true≢false (sym also))
signed-common long Long b is also = absurd (true≢false (sym also))
signed-common size a b is also = absurd (true≢false (sym is))

pub signed-promoted : (size : Size) (a : Base) → carries Signed size a ≡ true → promoted_type a ≡ signed_reckons size
signed-promoted bit Int is = refl
signed-promoted byte Schar is = refl
signed-promoted byte Int is = refl
signed-promoted word Int is = refl
signed-promoted long Long is = refl
signed-promoted size a is = absurd (true≢false (sym is))

pub reckons-carries : (size : Size) → carries Signed size (signed_reckons size) ≡ true
reckons-carries bit = refl
reckons-carries byte = refl
reckons-carries word = refl
reckons-carries long = refl

-- words and longs hold their signed numbers as they are
pub word-signed : (n : ℕ) → signed_bits word n ≡ n
word-signed n = grind (arith, nat_tests)

pub long-signed : (n : ℕ) → signed_bits long n ≡ n
long-signed n = grind (arith, nat_tests)

word-converted : (k : ℕ) → k < 65536 → convert Int Int k ≡ signed_bits word k
word-converted k fits = int-kept k fits ∙ sym (word-signed k)

long-converted : (k : ℕ) → k < 4294967296 → convert Long Long k ≡ signed_bits long k
long-converted k fits = grind (arith, nat_tests)

module _ (scope : Scope) where
  pub exact-is : (size : Size) (n : ℕ) (e : Expr) → (x : Text scope Exact size n e) → x.k ≡ n
  exact-is bit n e x = x.means
  exact-is byte n e x = x.means
  exact-is word n e x = x.means
  exact-is long n e x = x.means

  pub exact-number : (size : Size) (n : ℕ) (e : Expr) → (x : Text scope Exact size n e) → IsNumber scope x.base n e
  exact-number size n e x = subst (λ k. IsNumber scope x.base k e) (exact-is size n e x) x.number_is

  pub exact-text : (size : Size) (base : Base) (n : ℕ) (e : Expr) → holds size base ≡ true → n < 2 ^ bits size → IsNumber scope base n e → Text scope Exact size n e
  exact-text size base n e is fits x = record { base = base; k = n; is = is; room = room size base is fits; number_is = x; means = means size; fits = fits }
    where
      room : (size : Size) (base : Base) → holds size base ≡ true → n < 2 ^ bits size → n < 2 ^ bits_of base
      room bit Uchar is fits = omega (arith, fits)
      room bit Int is fits = omega (arith, fits)
      room byte Uchar is fits = fits
      room byte Int is fits = omega (arith, fits)
      room word Uint is fits = fits
      room long Ulong is fits = fits
      room size base is fits = absurd (true≢false (sym is))

      means : (size : Size) → Meaning Exact size base n n
      means bit = refl
      means byte = refl
      means word = refl
      means long = refl

  -- a signed operand, converted
  pub signed-converted : (size : Size) (n : ℕ) (e : Expr) → (x : Text scope Signed size n e) → convert x.base (signed_reckons size) x.k ≡ signed_bits size n
  signed-converted bit n e x = x.means
  signed-converted byte n e x = x.means
  signed-converted word n e x = at x.base x.is
    where
      at : (base : Base) → carries Signed word base ≡ true → convert base Int x.k ≡ signed_bits word n
      at Int is = ap (convert Int Int) x.means ∙ word-converted n x.fits
      at base is = absurd (true≢false (sym is))
  signed-converted long n e x = at x.base x.is
    where
      at : (base : Base) → carries Signed long base ≡ true → convert base Long x.k ≡ signed_bits long n
      at Long is = ap (convert Long Long) x.means ∙ long-converted n x.fits
      at base is = absurd (true≢false (sym is))

  -- what operators give on signed numbers
  pub signed-text : (size : Size) (n : ℕ) (e : Expr) → n < 2 ^ bits size → IsNumber scope (signed_reckons size) (signed_bits size n) e → Text scope Signed size n e
  signed-text bit n e fits x =
      let room = small n fits in from-number scope Signed bit Int (signed_bits bit n) n e refl room fits x (int-kept (signed_bits bit n) room)
    where
      small : (n : ℕ) → n < 2 → signed_bits bit n < 65536
      small n fits = grind (arith, nat_tests)
  signed-text byte n e fits x =
      let room = small n fits in from-number scope Signed byte Int (signed_bits byte n) n e refl room fits x (int-kept (signed_bits byte n) room)
    where
      small : (n : ℕ) → n < 256 → signed_bits byte n < 65536
      small n fits = grind (arith, nat_tests)
  signed-text word n e fits x = from-number scope Signed word Int n n e refl fits fits (subst (λ k. IsNumber scope Int k e) (word-signed n) x) refl
  signed-text long n e fits x = from-number scope Signed long Long n n e refl fits fits (subst (λ k. IsNumber scope Long k e) (long-signed n) x) refl
