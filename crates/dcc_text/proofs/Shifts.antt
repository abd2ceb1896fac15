-- Shifts.
use Rattle.std.proofs.Common.{◌≡◌, ℕ, ◌+◌, ◌-◌, ◌*◌, ◌/◌, ◌%◌, ◌^◌, ◌<◌, ◌≤◌, inl, inr, ◌⊎◌, true, false, refl, sym, ap, ◌∙◌, subst, arith, ℤ, pos, negsuc}
use Rattle.std.specs.Prelude.{◌||◌, if◌then◌else◌, nat_le}
use Rattle.std.proofs.lemmas.Bool.{cases_lt, le-leb, lt-leb}
use Rattle.std.proofs.lemmas.Bool.Decides.{nat_tests}
use Rattle.std.proofs.lemmas.Nat.{shr_le, mul-mod_first}
use Rattle.dcc_num.specs.Numbers.{halved_of}
use Rattle.dcc_ir.specs.declared.syntax.BinOp.TheVariants.{Shl as ShlOp, Shr as ShrOp, Sar as SarOp}
use Rattle.dcc_ir.specs.Value as inner
use Rattle.dcc_ir.specs.Value.{signed_at, pattern_at}
use Rattle.dcc_ir.proofs.ShiftLaws.{all_out_up, all_out_down}
use Rattle.dcc_c.specs.declared.syntax.Base.{Base}
use Rattle.dcc_c.specs.declared.syntax.Base.TheVariants.{Int}
use Rattle.dcc_c.specs.declared.syntax.CBin.TheVariants.{Shl, Shr}
use Rattle.dcc_c.specs.Types.{bits_of, promoted_type, is_negative, convert}
use Rattle.dcc_c.specs.Arithmetic.{complement, is_past, shifted_left, shifted_right}
use Rattle.dcc_c.specs.Tree.{Expr, Binary}
use Rattle.dcc_c.specs.Value.{Scope}
use Rattle.dcc_text.specs.Spelled.{Way, Low, Exact, Signed, carried}
use Rattle.dcc_text.proofs.Sizes.{Size, bit, byte, word, long, bits, holds, reckons, promoted-is, is-positive, kept}
use Rattle.dcc_text.proofs.Meanings.{IsNumber}
use Rattle.dcc_text.proofs.Reckoning.{Shifts, shifting-number}
use Rattle.dcc_text.proofs.Signs.{signed_reckons, signed_bits, positive, negative, sign-of}
use Rattle.dcc_text.proofs.Ways.{Text, from-number}
use Rattle.dcc_text.proofs.Wide.{is_wide, wide-bits, wide-promoted, wide-kept, wide-number, wide-text, narrow-promoted, int-kept}
use Rattle.dcc_text.proofs.Operands.{exact-holds, exact-number, exact-text, signed-promoted, signed-converted, signed-text}

pub shl-shifts : Shifts Shl shifted_left
shl-shifts = record { eager = record { eager = λ s e g. refl }; typing = λ a b. refl; valuing = λ a b n m. refl }

pub shr-shifts : Shifts Shr shifted_right
shr-shifts = record { eager = record { eager = λ s e g. refl }; typing = λ a b. refl; valuing = λ a b n m. refl }

-- a shift by a count that is no negative number
pub left-by : (t b : Base) (n m : ℕ) → is_negative b m ≡ false → shifted_left t n b m ≡ n * 2 ^ m % 2 ^ bits_of t
left-by t b n m counted = ap (λ past. if past || nat_le (bits_of t) m then 0 else n * 2 ^ m % 2 ^ bits_of t) counted ∙ by (cases_lt m (bits_of t))
  where
    by : (m < bits_of t) ⊎ (bits_of t ≤ m) → (if nat_le (bits_of t) m then 0 else n * 2 ^ m % 2 ^ bits_of t) ≡ n * 2 ^ m % 2 ^ bits_of t
    by (inl near) = ap (λ c. if c then 0 else n * 2 ^ m % 2 ^ bits_of t) (lt-leb (bits_of t) m near)
    by (inr far) = ap (λ c. if c then 0 else n * 2 ^ m % 2 ^ bits_of t) (le-leb (bits_of t) m far) ∙ all_out_up n (bits_of t) m far

-- what a right shift by such a count leaves of a number that is not below 0
moved : (t b : Base) (n m : ℕ) → n < 2 ^ bits_of t → is_negative b m ≡ false → (if is_past t b m then 0 else n / 2 ^ m) ≡ n / 2 ^ m
moved t b n m fits counted = ap (λ past. if past || nat_le (bits_of t) m then 0 else n / 2 ^ m) counted ∙ by (cases_lt m (bits_of t))
  where
    by : (m < bits_of t) ⊎ (bits_of t ≤ m) → (if nat_le (bits_of t) m then 0 else n / 2 ^ m) ≡ n / 2 ^ m
    by (inl near) = ap (λ c. if c then 0 else n / 2 ^ m) (lt-leb (bits_of t) m near)
    by (inr far) = ap (λ c. if c then 0 else n / 2 ^ m) (le-leb (bits_of t) m far) ∙ all_out_down n (bits_of t) m fits far

pub right-positive : (t b : Base) (n m : ℕ) → n < 2 ^ bits_of t → is_negative t n ≡ false → is_negative b m ≡ false → shifted_right t n b m ≡ n / 2 ^ m
right-positive t b n m fits up counted =
    ap (λ down. if down then complement t (if is_past t b m then 0 else complement t n / 2 ^ m) else if is_past t b m then 0 else n / 2 ^ m) up
    ∙ moved t b n m fits counted

right-negative : (t b : Base) (n m : ℕ) → complement t n < 2 ^ bits_of t → is_negative t n ≡ true → is_negative b m ≡ false → shifted_right t n b m ≡ complement t (complement t n / 2 ^ m)
right-negative t b n m fits down counted =
    ap (λ down. if down then complement t (if is_past t b m then 0 else complement t n / 2 ^ m) else if is_past t b m then 0 else n / 2 ^ m) down
    ∙ ap (complement t) (moved t b (complement t n) m fits counted)

pub reckons-fits : (size : Size) (n : ℕ) → n < 2 ^ bits size → n < 2 ^ bits_of (reckons size)
reckons-fits bit n fits = omega (arith, fits)
reckons-fits byte n fits = omega (arith, fits)
reckons-fits word n fits = fits
reckons-fits long n fits = fits

pub reckons-holds : (size : Size) → holds size (reckons size) ≡ true
reckons-holds bit = refl
reckons-holds byte = refl
reckons-holds word = refl
reckons-holds long = refl

-- the bits of a number below 0 where operators reckon, and what their complement is
abbrev pub bits_below : Size → ℕ → ℕ
bits_below s n = n + (2 ^ bits_of (signed_reckons s) - 2 ^ bits s)

abbrev turned_bits : Size → ℕ → ℕ
turned_bits s n = 2 ^ bits s - 1 - n

pub room : (s : Size) (n : ℕ) → n < 2 ^ bits s → n < 2 ^ bits_of (signed_reckons s)
room bit n f = omega (arith, f)
room byte n f = omega (arith, f)
room word n f = f
room long n f = f

pub above : (s : Size) (n : ℕ) → n < 2 ^ (bits s - 1) → is_negative (signed_reckons s) n ≡ false
above bit n low = lt-leb 32768 n (omega (arith, low))
above byte n low = lt-leb 32768 n (omega (arith, low))
above word n low = lt-leb 32768 n low
above long n low = lt-leb 2147483648 n low

pub below : (s : Size) (n : ℕ) → 2 ^ (bits s - 1) ≤ n → is_negative (signed_reckons s) (bits_below s n) ≡ true
below bit n high = le-leb 32768 (n + 65534) (omega (arith, high))
below byte n high = le-leb 32768 (n + 65280) (omega (arith, high))
below word n high = le-leb 32768 (n + 0) (omega (arith, high))
below long n high = le-leb 2147483648 (n + 0) (omega (arith, high))

turned-room : (s : Size) (n : ℕ) → n < 2 ^ bits s → complement (signed_reckons s) (bits_below s n) < 2 ^ bits_of (signed_reckons s)
turned-room bit n f = omega arith
turned-room byte n f = omega arith
turned-room word n f = omega arith
turned-room long n f = omega arith

turned : (s : Size) (n : ℕ) → n < 2 ^ bits s → complement (signed_reckons s) (bits_below s n) ≡ turned_bits s n
turned bit n f = omega (arith, f)
turned byte n f = omega (arith, f)
turned word n f = omega (arith, f)
turned long n f = omega (arith, f)

less : (s : Size) (n m : ℕ) → n < 2 ^ bits s → 2 ^ (bits s - 1) ≤ n → turned_bits s n / 2 ^ m < 2 ^ (bits s - 1)
less bit n m f high = omega (arith, f, high, shr_le (1 - n) m)
less byte n m f high = omega (arith, f, high, shr_le (255 - n) m)
less word n m f high = omega (arith, f, high, shr_le (65535 - n) m)
less long n m f high = omega (arith, f, high, shr_le (4294967295 - n) m)

smaller : (s : Size) (n m : ℕ) → n < 2 ^ (bits s - 1) → n / 2 ^ m < 2 ^ (bits s - 1)
smaller s n m low = omega (arith, low, shr_le n m)

-- a signed number from 0 on, and one below 0
pub signed-up : (size : Size) (k : ℕ) → k < 2 ^ (bits size - 1) → k ≡ signed_bits size (k % 2 ^ bits size)
signed-up bit k low = grind (arith, nat_tests)
signed-up byte k low = grind (arith, nat_tests)
signed-up word k low = grind (arith, nat_tests)
signed-up long k low = grind (arith, nat_tests)

signed-down : (size : Size) (k : ℕ) → k < 2 ^ (bits size - 1) → complement (signed_reckons size) k ≡ signed_bits size (2 ^ bits size - 1 - k % 2 ^ bits size)
signed-down bit k low = grind (arith, nat_tests)
signed-down byte k low = grind (arith, nat_tests)
signed-down word k low = grind (arith, nat_tests)
signed-down long k low = grind (arith, nat_tests)

-- a signed number moved down
signed-shifted : (size : Size) (b : Base) (n m : ℕ) → n < 2 ^ bits size → is_negative b m ≡ false
    → shifted_right (signed_reckons size) (signed_bits size n) b m ≡ signed_bits size (pattern_at (bits size) (halved_of (signed_at (bits size) n) m))
signed-shifted size b n m fits counted = elim (sign-of size n fits) [
  | positive low stands same ↦
      rw stands (rw same (right-positive (signed_reckons size) b n m (room size n fits) (above size n low) counted ∙ signed-up size (n / 2 ^ m) (smaller size n m low)))
  | negative high stands same ↦
      rw stands (rw same (right-negative (signed_reckons size) b (bits_below size n) m (turned-room size n fits) (below size n high) counted
      ∙ ap (λ c. complement (signed_reckons size) (c / 2 ^ m)) (turned size n fits)
      ∙ signed-down size (turned_bits size n / 2 ^ m) (less size n m fits high)))
]

pub pattern-fits : (size : Size) (z : ℤ) → pattern_at (bits size) z < 2 ^ bits size
pattern-fits bit (pos n) = omega arith
pattern-fits byte (pos n) = omega arith
pattern-fits word (pos n) = omega arith
pattern-fits long (pos n) = omega arith
pattern-fits bit (negsuc n) = omega arith
pattern-fits byte (negsuc n) = omega arith
pattern-fits word (negsuc n) = omega arith
pattern-fits long (negsuc n) = omega arith

module _ (scope : Scope) where
  module _ (size : Size) (n m : ℕ) (a b : Expr) where
    pub shr-text : Text scope Exact size n a → Text scope Exact size m b → Text scope Exact size (inner.binary_value ShrOp (bits size) n m) (Binary Shr a b)
    shr-text x y =
        let x_is = exact-holds size x.base x.is in
        let is = shifting-number scope Shr shifted_right shr-shifts x.base y.base n m a b (exact-number scope size n a x) (exact-number scope size m b y) in
        let up = is-positive size (reckons size) n (reckons-holds size) x.fits in
        exact-text scope size (reckons size) (n / 2 ^ m) (Binary Shr a b) (reckons-holds size) (omega (arith, x.fits, shr_le n m))
        (subst (λ k. IsNumber scope (reckons size) k (Binary Shr a b))
        (ap (λ t. shifted_right t (convert x.base t n) y.base m) (promoted-is size x.base x_is) ∙ ap (λ k. shifted_right (reckons size) k y.base m) (kept size x.base n x_is x.fits)
        ∙ right-positive (reckons size) y.base n m (reckons-fits size n x.fits) up (is-positive size y.base m (exact-holds size y.base y.is) y.fits))
        (subst (λ t. IsNumber scope t (shifted_right (promoted_type x.base) (convert x.base (promoted_type x.base) n) y.base m) (Binary Shr a b)) (promoted-is size x.base x_is) is))

    pub sar-text : Text scope Signed size n a → Text scope Exact size m b → Text scope Signed size (inner.binary_value SarOp (bits size) n m) (Binary Shr a b)
    sar-text x y =
        let is = shifting-number scope Shr shifted_right shr-shifts x.base y.base x.k m a b x.number_is (exact-number scope size m b y) in
        let there = subst (λ t. IsNumber scope t (shifted_right t (convert x.base t x.k) y.base m) (Binary Shr a b)) (signed-promoted size x.base x.is) is in
        signed-text scope size _ (Binary Shr a b) (pattern-fits size (halved_of (signed_at (bits size) n) m))
        (subst (λ k. IsNumber scope (signed_reckons size) k (Binary Shr a b))
        (ap (λ k. shifted_right (signed_reckons size) k y.base m) (signed-converted scope size n a x)
        ∙ signed-shifted size y.base n m x.fits (is-positive size y.base m (exact-holds size y.base y.is) y.fits)) there)

    -- left shifts of words and longs, in each way
    wide-shl : (way : Way) → is_wide size ≡ true → Text scope way size n a → Text scope Exact size m b → Text scope way size (inner.binary_value ShlOp (bits size) n m) (Binary Shl a b)
    wide-shl way wide x y =
        let same = wide-bits way size x.base wide x.is in
        let is = shifting-number scope Shl shifted_left shl-shifts x.base y.base n m a b (wide-number scope way size wide n a x) (exact-number scope size m b y) in
        let there = subst (λ t. IsNumber scope t (shifted_left t (convert x.base t n) y.base m) (Binary Shl a b)) (wide-promoted way size x.base wide x.is) is in
        wide-text scope way size wide x.base _ (Binary Shl a b) x.is (pattern-fits size (pos (n * 2 ^ m)))
        (subst (λ k. IsNumber scope x.base k (Binary Shl a b))
        (ap (λ k. shifted_left x.base k y.base m) (wide-kept way size x.base x.base n wide x.is same x.fits)
        ∙ left-by x.base y.base n m (is-positive size y.base m (exact-holds size y.base y.is) y.fits) ∙ ap (λ w. n * 2 ^ m % 2 ^ w) same) there)

  -- left shifts of bits and bytes, as ints
  int-shl : (size : Size) (n m : ℕ) (a b : Expr) → is_wide size ≡ false → (x : Text scope Low size n a) → Text scope Exact size m b → IsNumber scope Int (convert x.base Int x.k * 2 ^ m % 65536) (Binary Shl a b)
  int-shl size n m a b narrow x y =
      let is = shifting-number scope Shl shifted_left shl-shifts x.base y.base x.k m a b x.number_is (exact-number scope size m b y) in
      subst (λ k. IsNumber scope Int k (Binary Shl a b)) (left-by Int y.base (convert x.base Int x.k) m (is-positive size y.base m (exact-holds size y.base y.is) y.fits))
      (subst (λ t. IsNumber scope t (shifted_left t (convert x.base t x.k) y.base m) (Binary Shl a b)) (narrow-promoted Low size x.base narrow x.is) is)

  pub shl-text : (way : Way) (size : Size) (n m : ℕ) (a b : Expr) → Text scope (carried way (bits size)) size n a → Text scope Exact size m b
      → Text scope (carried way (bits size)) size (inner.binary_value ShlOp (bits size) n m) (Binary Shl a b)
  shl-text way bit n m a b x y =
      let j = convert x.base Int x.k in
      from-number scope Low bit Int (j * 2 ^ m % 65536) _ _ refl (omega arith) (omega arith) (int-shl bit n m a b refl x y)
      (ap (λ k. k % 2) (int-kept (j * 2 ^ m % 65536) (omega arith)) ∙ low-bit (j * 2 ^ m) ∙ sym (mul-mod_first j (2 ^ m) 2) ∙ ap (λ i. i * 2 ^ m % 2) x.means)
    where
      low-bit : (i : ℕ) → i % 65536 % 2 ≡ i % 2
      low-bit i = omega arith
  shl-text way byte n m a b x y =
      let j = convert x.base Int x.k in
      from-number scope Low byte Int (j * 2 ^ m % 65536) _ _ refl (omega arith) (omega arith) (int-shl byte n m a b refl x y)
      (ap (λ k. k % 256) (int-kept (j * 2 ^ m % 65536) (omega arith)) ∙ low-byte (j * 2 ^ m) ∙ sym (mul-mod_first j (2 ^ m) 256) ∙ ap (λ i. i * 2 ^ m % 256) x.means)
    where
      low-byte : (i : ℕ) → i % 65536 % 256 ≡ i % 256
      low-byte i = omega arith
  shl-text way word n m a b x y = wide-shl word n m a b way refl x y
  shl-text way long n m a b x y = wide-shl long n m a b way refl x y
