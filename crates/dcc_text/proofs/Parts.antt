-- Numbers of another size: widened ones, parts, and two halves that are joined.
use Rattle.std.proofs.Common.{◌≡◌, ℕ, ◌+◌, ◌-◌, ◌*◌, ◌/◌, ◌%◌, ◌^◌, ◌<◌, ◌≤◌, ◌⊎◌, inl, inr, true, false, refl, sym, ap, ap₂, ◌∙◌, subst, true≢false, arith, mod-eq_of_lt}
use Rattle.std.specs.Prelude.{bit_or}
use Rattle.std.proofs.lemmas.Bool.Decides.{nat_tests}
use Rattle.std.proofs.lemmas.Nat.{or_shifted, shr_le}
use Rattle.dcc_ir.specs.Value.{signed_at, pattern_at}
use Rattle.dcc_c.specs.declared.syntax.Base.{Base}
use Rattle.dcc_c.specs.declared.syntax.Base.TheVariants.{Schar, Uchar, Int, Uint, Long, Ulong}
use Rattle.dcc_c.specs.declared.syntax.CBin.TheVariants.{Or, Shl, Shr}
use Rattle.dcc_c.specs.Types.{bits_of, promoted_type, common_type, extended_bits, convert, plain}
use Rattle.dcc_c.specs.Arithmetic.{shifted_left, shifted_right}
use Rattle.dcc_c.specs.Tree.{Expr, Binary, Cast}
use Rattle.dcc_c.specs.Value.{Scope}
use Rattle.dcc_text.specs.Spelled.{Way, Low, Exact, Signed, small, cut, cut_to, reckoning_type, joined}
use Rattle.dcc_text.proofs.Sizes.{Size, bit, byte, word, long, bits, holds, reckons, promoted-is, small-positive, is-positive, extended-is, kept}
use Rattle.dcc_text.proofs.Meanings.{IsNumber, binary-valued, binary-typed, small-number, cast-number, low-bit}
use Rattle.dcc_text.proofs.Reckoning.{shifting-number}
use Rattle.dcc_text.proofs.Signs.{signed_reckons, signed_bits, schar-signed, positive, negative, sign-of}
use Rattle.dcc_text.proofs.Ways.{carries, Text, from-number, word-cast, long-cast, lowered, negative-bit}
use Rattle.dcc_text.proofs.Wide.{int-kept}
use Rattle.dcc_text.proofs.Operands.{exact-holds, exact-number, exact-text, signed-converted, signed-text, long-signed}
use Rattle.dcc_text.proofs.Shifts.{shl-shifts, shr-shifts, left-by, right-positive, reckons-fits, reckons-holds, pattern-fits}

-- no size has fewer bits than one
none-below : (size : Size) → bits size < 1 → ⊥
none-below bit less = omega (arith, less)
none-below byte less = omega (arith, less)
none-below word less = omega (arith, less)
none-below long less = omega (arith, less)

-- Widened numbers.

wide-holds : (wide : Size) → holds wide (reckoning_type false (bits wide)) ≡ true
wide-holds bit = refl
wide-holds byte = refl
wide-holds word = refl
wide-holds long = refl

wide-fits : (size wide : Size) (n : ℕ) → bits size < bits wide → n < 2 ^ bits size → n < 2 ^ bits wide
wide-fits bit bit n less fits = fits
wide-fits byte bit n less fits = absurd (omega (arith, less))
wide-fits word bit n less fits = absurd (omega (arith, less))
wide-fits long bit n less fits = absurd (omega (arith, less))
wide-fits bit byte n less fits = omega (arith, fits)
wide-fits byte byte n less fits = fits
wide-fits word byte n less fits = absurd (omega (arith, less))
wide-fits long byte n less fits = absurd (omega (arith, less))
wide-fits bit word n less fits = omega (arith, fits)
wide-fits byte word n less fits = omega (arith, fits)
wide-fits word word n less fits = fits
wide-fits long word n less fits = absurd (omega (arith, less))
wide-fits bit long n less fits = omega (arith, fits)
wide-fits byte long n less fits = omega (arith, fits)
wide-fits word long n less fits = omega (arith, fits)
wide-fits long long n less fits = fits

-- a number that fits a size fits its type
wide-kept-exactly : (wide : Size) (n : ℕ) → n < 2 ^ bits wide → n % 2 ^ bits_of (reckoning_type false (bits wide)) ≡ n
wide-kept-exactly bit n fits = mod-eq_of_lt (omega (arith, fits))
wide-kept-exactly byte n fits = mod-eq_of_lt (omega (arith, fits))
wide-kept-exactly word n fits = mod-eq_of_lt fits
wide-kept-exactly long n fits = mod-eq_of_lt fits

-- Signed numbers in a wider type. An int that stands for a number of a size is extended by its sign.
as-int : (size wide : Size) (n : ℕ) → bits size < bits wide → bits wide ≤ 16 → n < 2 ^ bits size → signed_bits size n ≡ signed_bits wide (pattern_at (bits wide) (signed_at (bits size) n))
as-int size wide n less few fits = elim (sign-of size n fits) [
  | positive low is same ↦ rw is (rw same (up size wide fits low less few))
  | negative high is same ↦ rw is (rw same (down size wide fits high less few))
]
  where
    up : (size wide : Size) → n < 2 ^ bits size → n < 2 ^ (bits size - 1) → bits size < bits wide → bits wide ≤ 16 → n ≡ signed_bits wide (n % 2 ^ bits wide)
    up bit byte fits low less few = grind (arith, nat_tests)
    up bit word fits low less few = grind (arith, nat_tests)
    up byte word fits low less few = grind (arith, nat_tests)
    up size long fits low less few = absurd (omega (arith, few))
    up size bit fits low less few = absurd (none-below size less)
    up byte byte fits low less few = absurd (omega (arith, less))
    up word byte fits low less few = absurd (omega (arith, less))
    up long byte fits low less few = absurd (omega (arith, less))
    up word word fits low less few = absurd (omega (arith, less))
    up long word fits low less few = absurd (omega (arith, less))

    down : (size wide : Size) → n < 2 ^ bits size → 2 ^ (bits size - 1) ≤ n → bits size < bits wide → bits wide ≤ 16
        → n + (2 ^ bits_of (signed_reckons size) - 2 ^ bits size) ≡ signed_bits wide (2 ^ bits wide - 1 - (2 ^ bits size - 1 - n) % 2 ^ bits wide)
    down bit byte fits high less few = grind (arith, nat_tests)
    down bit word fits high less few = grind (arith, nat_tests)
    down byte word fits high less few = grind (arith, nat_tests)
    down size long fits high less few = absurd (omega (arith, few))
    down size bit fits high less few = absurd (none-below size less)
    down byte byte fits high less few = absurd (omega (arith, less))
    down word byte fits high less few = absurd (omega (arith, less))
    down long byte fits high less few = absurd (omega (arith, less))
    down word word fits high less few = absurd (omega (arith, less))
    down long word fits high less few = absurd (omega (arith, less))

-- an int that stands for a signed number has the same bits as a long, for each type of such an int
as-long : (size : Size) (base : Base) (k n : ℕ) → bits size < 32 → carries Signed size base ≡ true → k < 2 ^ bits_of base → n < 2 ^ bits size → convert base (signed_reckons size) k ≡ signed_bits size n
    → convert base Long k ≡ pattern_at 32 (signed_at (bits size) n)
as-long bit Int k n less is room fits same = bits-long k n room fits (from-int k (signed_bits bit n) room same)
  where
    from-int : (k j : ℕ) → k < 65536 → convert Int Int k ≡ j → k ≡ j
    from-int k j room same = sym (int-kept k room) ∙ same

    bits-long : (k n : ℕ) → k < 65536 → n < 2 → k ≡ signed_bits bit n → convert Int Long k ≡ pattern_at 32 (signed_at 1 n)
    bits-long k n room fits same = elim (sign-of bit n fits) [
      | positive low is same' ↦ rw is (rw same (rw same' (grind (arith, nat_tests))))
      | negative high is same' ↦ rw is (rw same (rw same' (grind (arith, nat_tests))))
    ]
as-long byte Schar k n less is room fits same = elim (sign-of byte n fits) [
  | positive low is same' ↦ rw is (low-schar k n room low (same ∙ same'))
  | negative high is same' ↦ rw is (high-schar k n room fits high (same ∙ same'))
]
  where
    low-schar : (k n : ℕ) → k < 256 → n < 128 → convert Schar Int k ≡ n → convert Schar Long k ≡ n % 4294967296
    low-schar k n room low same = grind (arith, nat_tests)

    high-schar : (k n : ℕ) → k < 256 → n < 256 → 128 ≤ n → convert Schar Int k ≡ n + 65280 → convert Schar Long k ≡ 4294967295 - (255 - n) % 4294967296
    high-schar k n room fits high same = grind (arith, nat_tests)
as-long byte Int k n less is room fits same = elim (sign-of byte n fits) [
  | positive low is same' ↦ rw is (low-int k n room low (same ∙ same'))
  | negative high is same' ↦ rw is (high-int k n room fits high (same ∙ same'))
]
  where
    low-int : (k n : ℕ) → k < 65536 → n < 128 → convert Int Int k ≡ n → convert Int Long k ≡ n % 4294967296
    low-int k n room low same = grind (arith, nat_tests)

    high-int : (k n : ℕ) → k < 65536 → n < 256 → 128 ≤ n → convert Int Int k ≡ n + 65280 → convert Int Long k ≡ 4294967295 - (255 - n) % 4294967296
    high-int k n room fits high same = grind (arith, nat_tests)
as-long word Int k n less is room fits same = elim (sign-of word n fits) [
  | positive low is same' ↦ rw is (low-int k n room low (same ∙ same'))
  | negative high is same' ↦ rw is (high-int k n room fits high (same ∙ same'))
]
  where
    low-int : (k n : ℕ) → k < 65536 → n < 32768 → convert Int Int k ≡ n → convert Int Long k ≡ n % 4294967296
    low-int k n room low same = grind (arith, nat_tests)

    high-int : (k n : ℕ) → k < 65536 → n < 65536 → 32768 ≤ n → convert Int Int k ≡ n + 0 → convert Int Long k ≡ 4294967295 - (65535 - n) % 4294967296
    high-int k n room fits high same = grind (arith, nat_tests)
as-long long base k n less is room fits same = absurd (omega (arith, less))
as-long size base k n less is room fits same = absurd (true≢false (sym is))

module _ (scope : Scope) where
  -- a number in a wider type
  pub widened-exactly : (size wide : Size) (n : ℕ) (e : Expr) → bits size < bits wide → Text scope Exact size n e → Text scope Exact wide n (Cast (plain (reckoning_type false (bits wide))) e)
  widened-exactly size wide n e less x =
      let t = reckoning_type false (bits wide) in
      exact-text scope wide t n _ (wide-holds wide) (wide-fits size wide n less x.fits)
      (subst (λ k. IsNumber scope t k (Cast (plain t) e))
      (ap (λ k. k % 2 ^ bits_of t) (extended-is size x.base n (exact-holds size x.base x.is) x.fits) ∙ wide-kept-exactly wide n (wide-fits size wide n less x.fits))
      (cast-number scope t x.base n e (exact-number scope size n e x)))

  -- a signed number of at most a word, as an int
  int-of : (size : Size) (n : ℕ) (e : Expr) → (x : Text scope Signed size n e) → bits size < 32 → convert x.base Int x.k ≡ signed_bits size n
  int-of bit n e x few = signed-converted scope bit n e x
  int-of byte n e x few = signed-converted scope byte n e x
  int-of word n e x few = signed-converted scope word n e x
  int-of long n e x few = absurd (omega (arith, few))

  -- a signed number in a wider type
  pub widened-signed : (size wide : Size) (n : ℕ) (e : Expr) → bits size < bits wide → Text scope Signed size n e
      → Text scope Signed wide (pattern_at (bits wide) (signed_at (bits size) n)) (Cast (plain (reckoning_type true (bits wide))) e)
  widened-signed size byte n e less x =
      signed-text scope byte _ _ (pattern-fits byte (signed_at (bits size) n))
      (subst (λ k. IsNumber scope Int k (Cast (plain Int) e)) (int-of size n e x (omega (arith, less)) ∙ as-int size byte n less (omega arith) x.fits) (cast-number scope Int x.base x.k e x.number_is))
  widened-signed size word n e less x =
      signed-text scope word _ _ (pattern-fits word (signed_at (bits size) n))
      (subst (λ k. IsNumber scope Int k (Cast (plain Int) e)) (int-of size n e x (omega (arith, less)) ∙ as-int size word n less (omega arith) x.fits) (cast-number scope Int x.base x.k e x.number_is))
  widened-signed size long n e less x =
      signed-text scope long _ _ (pattern-fits long (signed_at (bits size) n))
      (subst (λ k. IsNumber scope Long k (Cast (plain Long) e))
      (as-long size x.base x.k n less x.is x.room x.fits (signed-converted scope size n e x) ∙ sym (long-signed (pattern_at 32 (signed_at (bits size) n))))
      (cast-number scope Long x.base x.k e x.number_is))
  widened-signed size bit n e less x = absurd (none-below size less)

  -- Parts.

  -- a number of any type, by its low bits
  cut-exactly : (size : Size) (base : Base) (k n : ℕ) (e : Expr) → IsNumber scope base k e → extended_bits base k % 2 ^ bits size ≡ n → Text scope Exact size n (cut (bits size) e)
  cut-exactly bit base k n e x same =
      let j = extended_bits base k in
      let is = low-bit scope (j % 256) (Cast (plain Uchar) e) (cast-number scope Uchar base k e x) (omega arith) in
      exact-text scope bit Int n _ refl (small j same) (subst (λ m. IsNumber scope Int m (cut 1 e)) (low j same) is)
    where
      small : (j : ℕ) → j % 2 ≡ n → n < 2
      small j same = omega (arith, same)

      low : (j : ℕ) → j % 2 ≡ n → j % 256 % 2 ≡ n
      low j same = omega (arith, same)
  cut-exactly byte base k n e x same =
      exact-text scope byte Uchar n _ refl (subst (λ m. m < 256) same (omega arith)) (subst (λ m. IsNumber scope Uchar m (Cast (plain Uchar) e)) same (cast-number scope Uchar base k e x))
  cut-exactly word base k n e x same =
      exact-text scope word Uint n _ refl (subst (λ m. m < 65536) same (omega arith)) (subst (λ m. IsNumber scope Uint m (Cast (plain Uint) e)) same (cast-number scope Uint base k e x))
  cut-exactly long base k n e x same =
      exact-text scope long Ulong n _ refl (subst (λ m. m < 4294967296) same (omega arith)) (subst (λ m. IsNumber scope Ulong m (Cast (plain Ulong) e)) same (cast-number scope Ulong base k e x))

  pub cut-any : (want : Way) (size : Size) (base : Base) (k n : ℕ) (e : Expr) → IsNumber scope base k e → extended_bits base k % 2 ^ bits size ≡ n → Text scope want size n (cut_to want (bits size) e)
  cut-any Low size base k n e x same = lowered scope Exact size n _ (cut-exactly size base k n e x same)
  cut-any Exact size base k n e x same = cut-exactly size base k n e x same
  cut-any Signed bit base k n e x same = negative-bit scope n (cut 1 e) (cut-exactly bit base k n e x same)
  cut-any Signed byte base k n e x same =
      let fits : n < 256 = subst (λ m. m < 256) same (omega arith) in
      from-number scope Signed byte Schar n n _ refl fits fits (subst (λ m. IsNumber scope Schar m (Cast (plain Schar) e)) same (cast-number scope Schar base k e x)) (schar-signed n fits)
  cut-any Signed word base k n e x same =
      let fits : n < 65536 = subst (λ m. m < 65536) same (omega arith) in
      from-number scope Signed word Int n n _ refl fits fits (subst (λ m. IsNumber scope Int m (Cast (plain Int) e)) same (cast-number scope Int base k e x)) refl
  cut-any Signed long base k n e x same =
      let fits : n < 4294967296 = subst (λ m. m < 4294967296) same (omega arith) in
      from-number scope Signed long Long n n _ refl fits fits (subst (λ m. IsNumber scope Long m (Cast (plain Long) e)) same (cast-number scope Long base k e x)) refl

  -- the 32 bits of what gives low bits
  pub low-extended : (size : Size) (n : ℕ) (e : Expr) → (x : Text scope Low size n e) → extended_bits x.base x.k % 2 ^ bits size ≡ n
  low-extended bit n e x = low (extended_bits x.base x.k) x.means
    where
      low : (j : ℕ) → j % 65536 % 2 ≡ n → j % 2 ≡ n
      low j same = omega (arith, same)
  low-extended byte n e x = low (extended_bits x.base x.k) x.means
    where
      low : (j : ℕ) → j % 65536 % 256 ≡ n → j % 256 ≡ n
      low j same = omega (arith, same)
  low-extended word n e x = ap (λ k. extended_bits x.base k % 65536) x.means ∙ word-cast x.base n x.is x.fits
  low-extended long n e x = ap (λ k. extended_bits x.base k % 4294967296) x.means ∙ long-cast x.base n x.is x.fits

  module _ (want : Way) (size part : Size) where
    low-part : (size part : Size) (j n : ℕ) → bits part ≤ bits size → j % 2 ^ bits size ≡ n → j % 2 ^ bits part ≡ n % 2 ^ bits part
    low-part bit bit j n less same = omega (arith, same)
    low-part byte bit j n less same = omega (arith, same)
    low-part word bit j n less same = omega (arith, same)
    low-part long bit j n less same = omega (arith, same)
    low-part byte byte j n less same = omega (arith, same)
    low-part word byte j n less same = omega (arith, same)
    low-part long byte j n less same = omega (arith, same)
    low-part word word j n less same = omega (arith, same)
    low-part long word j n less same = omega (arith, same)
    low-part long long j n less same = omega (arith, same)
    low-part bit byte j n less same = absurd (omega (arith, less))
    low-part bit word j n less same = absurd (omega (arith, less))
    low-part bit long j n less same = absurd (omega (arith, less))
    low-part byte word j n less same = absurd (omega (arith, less))
    low-part byte long j n less same = absurd (omega (arith, less))
    low-part word long j n less same = absurd (omega (arith, less))

    -- from bit 0 on
    pub low-part-text : (n : ℕ) (e : Expr) → bits part ≤ bits size → Text scope Low size n e → Text scope want part (n / 2 ^ 0 % 2 ^ bits part) (cut_to want (bits part) e)
    low-part-text n e less x =
        subst (λ m. Text scope want part (m % 2 ^ bits part) (cut_to want (bits part) e)) (let whole : n ≡ n / 2 ^ 0 = omega arith in whole)
        (cut-any want part x.base x.k (n % 2 ^ bits part) e x.number_is (low-part size part (extended_bits x.base x.k) n less (low-extended size n e x)))

    -- moved down by the first bit
    module _ (first n : ℕ) (e : Expr) (within : first + bits part ≤ bits size) (x : Text scope Exact size n e) where
      first-small : first < 32
      first-small = at size part within
        where
          at : (size part : Size) → first + bits part ≤ bits size → first < 32
          at bit part w = omega (arith, w)
          at byte part w = omega (arith, w)
          at word part w = omega (arith, w)
          at long bit w = omega (arith, w)
          at long byte w = omega (arith, w)
          at long word w = omega (arith, w)
          at long long w = omega (arith, w)

      moved : IsNumber scope (reckons size) (n / 2 ^ first) (Binary Shr e (small first))
      moved =
          let x_is = exact-holds size x.base x.is in
          let count : IsNumber scope Int first (small first) = small-number scope first (omega (arith, first-small)) in
          let is = shifting-number scope Shr shifted_right shr-shifts x.base Int n first e (small first) (exact-number scope size n e x) count in
          let there = subst (λ t. IsNumber scope t (shifted_right t (convert x.base t n) Int first) (Binary Shr e (small first))) (promoted-is size x.base x_is) is in
          subst (λ k. IsNumber scope (reckons size) k (Binary Shr e (small first)))
          (ap (λ k. shifted_right (reckons size) k Int first) (kept size x.base n x_is x.fits)
          ∙ right-positive (reckons size) Int n first (reckons-fits size n x.fits) (is-positive size (reckons size) n (reckons-holds size) x.fits) (small-positive first (omega (arith, first-small))))
          there

      pub high-part-text : Text scope want part (n / 2 ^ first % 2 ^ bits part) (cut_to want (bits part) (Binary Shr e (small first)))
      high-part-text =
          cut-any want part (reckons size) (n / 2 ^ first) (n / 2 ^ first % 2 ^ bits part) (Binary Shr e (small first)) moved
          (ap (λ k. k % 2 ^ bits part) (extended-is size (reckons size) (n / 2 ^ first) (reckons-holds size) (let f : n / 2 ^ first < 2 ^ bits size = omega (arith, x.fits, shr_le n first) in f)))

  -- Halves.

  or-number : (a b : Base) (n m : ℕ) (e g : Expr) → IsNumber scope a n e → IsNumber scope b m g
      → IsNumber scope (common_type a b) (bit_or (convert a (common_type a b) n) (convert b (common_type a b) m)) (Binary Or e g)
  or-number a b n m e g x y = record { typed = binary-typed scope Or a b n m e g x y; valued = binary-valued scope Or a b n m e g x y }

  -- the upper half in the type of the whole, moved up by so many bits
  upper-number : (whole base : Base) (h shift : ℕ) (high : Expr) → promoted_type whole ≡ whole → IsNumber scope base h high → shift < 32
      → convert whole whole (convert base whole h) ≡ h → h * 2 ^ shift < 2 ^ bits_of whole
      → IsNumber scope whole (h * 2 ^ shift) (Binary Shl (Cast (plain whole) high) (small shift))
  upper-number whole base h shift high promoted is near same fits =
      let up = cast-number scope whole base h high is in
      let count = small-number scope shift (omega (arith, near)) in
      let there = subst (λ t. IsNumber scope t (shifted_left t (convert whole t (convert base whole h)) Int shift) (Binary Shl (Cast (plain whole) high) (small shift))) promoted
      (shifting-number scope Shl shifted_left shl-shifts whole Int (convert base whole h) shift (Cast (plain whole) high) (small shift) up count) in
      subst (λ k. IsNumber scope whole k (Binary Shl (Cast (plain whole) high) (small shift)))
      (ap (λ k. shifted_left whole k Int shift) same ∙ left-by whole Int h shift (small-positive shift (omega (arith, near))) ∙ mod-eq_of_lt fits)
      there

  -- two bytes
  join-bytes : (h l : ℕ) (high low : Expr) → Text scope Exact byte h high → Text scope Exact byte l low → Text scope Exact word (h * 2 ^ 8 + l) (joined 8 high low)
  join-bytes h l high low x y =
      let hf = x.fits in
      let up = upper-number Uint x.base h 8 high refl (exact-number scope byte h high x) (omega arith) (ap (λ k. k % 65536 % 65536) (extended-is byte x.base h x.is x.fits) ∙ omega (arith, hf)) (omega (arith, hf)) in
      let down = subst (λ k. IsNumber scope Uint k (Cast (plain Uint) low)) (ap (λ k. k % 65536) (extended-is byte y.base l y.is y.fits) ∙ mod-eq_of_lt (let f : l < 65536 = omega (arith, y.fits) in f))
      (cast-number scope Uint y.base l low (exact-number scope byte l low y)) in
      exact-text scope word Uint (h * 2 ^ 8 + l) (joined 8 high low) refl (omega (arith, hf, y.fits))
      (subst (λ k. IsNumber scope Uint k (joined 8 high low))
      (ap₂ bit_or (mod-eq_of_lt (let f : h * 2 ^ 8 < 65536 = omega (arith, hf) in f)) (mod-eq_of_lt (let f : l < 65536 = omega (arith, y.fits) in f)) ∙ or_shifted h 8 l y.fits)
      (or-number Uint Uint (h * 2 ^ 8) l _ _ up down))

  -- two words
  join-words : (h l : ℕ) (high low : Expr) → Text scope Exact word h high → Text scope Exact word l low → Text scope Exact long (h * 2 ^ 16 + l) (joined 16 high low)
  join-words h l high low x y =
      let hf = x.fits in
      let up = upper-number Ulong x.base h 16 high refl (exact-number scope word h high x) (omega arith)
      (ap (λ k. k % 4294967296 % 4294967296) (extended-is word x.base h x.is x.fits) ∙ omega (arith, hf)) (omega (arith, hf)) in
      let down = subst (λ k. IsNumber scope Ulong k (Cast (plain Ulong) low)) (ap (λ k. k % 4294967296) (extended-is word y.base l y.is y.fits) ∙ mod-eq_of_lt (let f : l < 4294967296 = omega (arith, y.fits) in f))
      (cast-number scope Ulong y.base l low (exact-number scope word l low y)) in
      exact-text scope long Ulong (h * 2 ^ 16 + l) (joined 16 high low) refl (omega (arith, hf, y.fits))
      (subst (λ k. IsNumber scope Ulong k (joined 16 high low))
      (ap₂ bit_or (mod-eq_of_lt (let f : h * 2 ^ 16 < 4294967296 = omega (arith, hf) in f)) (mod-eq_of_lt (let f : l < 4294967296 = omega (arith, y.fits) in f)) ∙ or_shifted h 16 l y.fits)
      (or-number Ulong Ulong (h * 2 ^ 16) l _ _ up down))

  -- halves of a word or of a long
  pub joined-text : (size wide : Size) (h l : ℕ) (high low : Expr) → bits wide ≡ bits size + bits size → bits size ≡ 8 ⊎ bits size ≡ 16
      → Text scope Exact size h high → Text scope Exact size l low → Text scope Exact wide (h * 2 ^ bits size + l) (joined (bits size) high low)
  joined-text byte word h l high low double few x y = join-bytes h l high low x y
  joined-text word long h l high low double few x y = join-words h l high low x y
  joined-text bit wide h l high low double (inl e) x y = absurd (omega (arith, e))
  joined-text bit wide h l high low double (inr e) x y = absurd (omega (arith, e))
  joined-text long wide h l high low double (inl e) x y = absurd (omega (arith, e))
  joined-text long wide h l high low double (inr e) x y = absurd (omega (arith, e))
  joined-text byte bit h l high low double few x y = absurd (omega (arith, double))
  joined-text byte byte h l high low double few x y = absurd (omega (arith, double))
  joined-text byte long h l high low double few x y = absurd (omega (arith, double))
  joined-text word bit h l high low double few x y = absurd (omega (arith, double))
  joined-text word byte h l high low double few x y = absurd (omega (arith, double))
  joined-text word word h l high low double few x y = absurd (omega (arith, double))
