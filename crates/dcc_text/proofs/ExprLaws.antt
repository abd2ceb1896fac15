-- The law of expressions: what their text gives, as a number.
use Rattle.std.proofs.Common.{◌≡◌, ℕ, ◌+◌, ◌-◌, ◌%◌, ◌^◌, ◌<◌, ◌≤◌, Bool, true, refl, sym, ap, ◌∙◌, subst, true≢false, arith, mod-eq_of_lt, pos, negsuc}
use Rattle.std.proofs.lemmas.Bool.Decides.{nat_tests}
use Rattle.dcc_num.specs.Numbers.{residue_of}
use Rattle.dcc_ir.specs.Tree as inner
use Rattle.dcc_ir.specs.Use.{parts_of, got_by, addressed_by}
use Rattle.dcc_ir.specs.Value.{width_of, signed_at, Environment, value_of, Fits}
use Rattle.dcc_ir.specs.WellFormed.{is_expr}
use Rattle.dcc_ir.proofs.ListLaws.{all_parts}
use Rattle.dcc_c.specs.declared.syntax.Base.{Base}
use Rattle.dcc_c.specs.declared.syntax.Base.TheVariants.{Schar, Uchar, Int, Uint, Long, Ulong}
use Rattle.dcc_c.specs.Types.{bits_of, convert}
use Rattle.dcc_c.specs.Tree.{Expr}
use Rattle.dcc_c.specs.Value.{Scope}
use Rattle.dcc_text.specs.Spelling.{Spelling}
use Rattle.dcc_text.specs.Spelled.{Way, Low, Exact, Signed, text}
use Rattle.dcc_text.specs.Meaning.{IsHeld, IsPlaced, Shows, integer, Tells, IsText}
use Rattle.dcc_text.proofs.Sizes.{Size, bit, byte, word, long, bits}
use Rattle.dcc_text.proofs.Signs.{signed_bits, positive, negative, sign-of}
use Rattle.dcc_text.proofs.Ways.{carries, Meaning, Text}
use Rattle.dcc_text.proofs.Wide.{int-kept}
use Rattle.dcc_text.proofs.Texts.{stands}

-- The low bits of a signed number are its own.

byte-residue : (m k : ℕ) → k < 256 → (255 - k) % m + k % m ≡ m - 1 → residue_of m (signed_at 8 k) ≡ k % m
byte-residue m k room whole = elim (sign-of byte k room) [
  | positive low is same ↦ rw is refl
  | negative high is same ↦ rw is (omega (arith, whole))
]

word-residue : (m k : ℕ) → k < 65536 → (65535 - k) % m + k % m ≡ m - 1 → residue_of m (signed_at 16 k) ≡ k % m
word-residue m k room whole = elim (sign-of word k room) [
  | positive low is same ↦ rw is refl
  | negative high is same ↦ rw is (omega (arith, whole))
]

long-residue : (k : ℕ) → k < 4294967296 → residue_of 4294967296 (signed_at 32 k) ≡ k
long-residue k room = elim (sign-of long k room) [
  | positive low is same ↦ rw is (mod-eq_of_lt room)
  | negative high is same ↦ rw is (omega (arith, room))
]

-- Each way.

low-tells : (size : Size) (base : Base) (k n : ℕ) → carries Low size base ≡ true → k < 2 ^ bits_of base → Meaning Low size base k n → Tells Low (bits size) n (integer base k)
low-tells bit Schar k n is room means = byte-residue 2 k room (omega arith) ∙ schar k room means
  where
    schar : (k : ℕ) → k < 256 → convert Schar Int k % 2 ≡ n → k % 2 ≡ n
    schar k room means = grind (arith, nat_tests)
low-tells byte Schar k n is room means = byte-residue 256 k room (omega (arith, room)) ∙ schar k room means
  where
    schar : (k : ℕ) → k < 256 → convert Schar Int k % 256 ≡ n → k % 256 ≡ n
    schar k room means = grind (arith, nat_tests)
low-tells bit Uchar k n is room means = omega (arith, room, means)
low-tells byte Uchar k n is room means = omega (arith, room, means)
low-tells bit Int k n is room means = word-residue 2 k room (omega (arith, room)) ∙ ap (λ j. j % 2) (sym (int-kept k room)) ∙ means
low-tells byte Int k n is room means = word-residue 256 k room (omega (arith, room)) ∙ ap (λ j. j % 256) (sym (int-kept k room)) ∙ means
low-tells word Int k n is room means = word-residue 65536 k room (omega (arith, room)) ∙ mod-eq_of_lt room ∙ means
low-tells word Uint k n is room means = mod-eq_of_lt room ∙ means
low-tells long Long k n is room means = long-residue k room ∙ means
low-tells long Ulong k n is room means = mod-eq_of_lt room ∙ means
low-tells size base k n is room means = absurd (true≢false (sym is))

-- a small number as an int
small-int : (n : ℕ) → n < 256 → signed_at 16 n ≡ pos n
small-int n fits = grind (arith, nat_tests)

exact-tells : (size : Size) (base : Base) (k n : ℕ) → carries Exact size base ≡ true → n < 2 ^ bits size → Meaning Exact size base k n → Tells Exact (bits size) n (integer base k)
exact-tells bit Uchar k n is fits means = ap pos means
exact-tells bit Int k n is fits means = ap (signed_at 16) means ∙ small-int n (omega (arith, fits))
exact-tells byte Uchar k n is fits means = ap pos means
exact-tells byte Int k n is fits means = ap (signed_at 16) means ∙ small-int n fits
exact-tells word Uint k n is fits means = ap pos means
exact-tells long Ulong k n is fits means = ap pos means
exact-tells size base k n is fits means = absurd (true≢false (sym is))

signed-tells : (size : Size) (base : Base) (k n : ℕ) → carries Signed size base ≡ true → k < 2 ^ bits_of base → n < 2 ^ bits size → Meaning Signed size base k n → Tells Signed (bits size) n (integer base k)
signed-tells bit Int k n is room fits means = ap (signed_at 16) (sym (int-kept k room) ∙ means) ∙ same n fits
  where
    same : (n : ℕ) → n < 2 → signed_at 16 (signed_bits bit n) ≡ signed_at 1 n
    same n fits = elim (sign-of bit n fits) [
      | positive low is equal ↦ rw is (rw equal (grind (arith, nat_tests)))
      | negative high is equal ↦ (let one : n ≡ 1 = omega (arith, fits, high) in rw one refl)
    ]
signed-tells byte Schar k n is room fits means = ap (signed_at 8) (same k n room fits means)
  where
    same : (k n : ℕ) → k < 256 → n < 256 → convert Schar Int k ≡ signed_bits byte n → k ≡ n
    same k n room fits means = grind (arith, nat_tests)
signed-tells byte Int k n is room fits means = ap (signed_at 16) (sym (int-kept k room) ∙ means) ∙ same n fits
  where
    wide : (n : ℕ) → n < 256 → 128 ≤ n → signed_at 16 (n + 65280) ≡ negsuc (255 - n)
    wide n fits high = elim (sign-of word (n + 65280) (omega (arith, fits))) [
      | positive low is equal ↦ absurd (omega (arith, low, high))
      | negative top is equal ↦ is ∙ ap negsuc (let e : 65535 - (n + 65280) ≡ 255 - n = omega (arith, fits) in e)
    ]

    same : (n : ℕ) → n < 256 → signed_at 16 (signed_bits byte n) ≡ signed_at 8 n
    same n fits = elim (sign-of byte n fits) [
      | positive low is equal ↦ rw is (rw equal (small-int n fits))
      | negative high is equal ↦ rw is (rw equal (wide n fits high))
    ]
signed-tells word Int k n is room fits means = ap (signed_at 16) means
signed-tells long Long k n is room fits means = ap (signed_at 32) means
signed-tells size base k n is room fits means = absurd (true≢false (sym is))

tells : (way : Way) (size : Size) (base : Base) (k n : ℕ) → carries way size base ≡ true → k < 2 ^ bits_of base → n < 2 ^ bits size → Meaning way size base k n → Tells way (bits size) n (integer base k)
tells Low size base k n is room fits means = low-tells size base k n is room means
tells Exact size base k n is room fits means = exact-tells size base k n is fits means
tells Signed size base k n is room fits means = signed-tells size base k n is room fits means

pub as-text : (scope : Scope) (way : Way) (size : Size) (n : ℕ) (e : Expr) → Text scope way size n e → IsText scope way (bits size) n e
as-text scope way size n e x = record {
  base = x.base;
  bits = x.k;
  room = x.room;
  typed = x.number_is.typed;
  valued = x.number_is.valued;
  tells = tells way size x.base x.k n x.is x.room x.fits x.means;
}

pub expressions-mean : (s : Spelling) (scene : Environment) (scope : Scope) (e : inner.Expr) (way : Way) (votes : Bool) → Fits scene → is_expr scene.bits e ≡ true → Shows s scene scope e
    → IsText scope way (width_of scene.bits e) (value_of scene e) (text s way votes e)
expressions-mean s scene scope e way votes fits formed shows =
    let x = stands s scope scene.values scene.base scene.memory shows.memory fits.bytes e (subst (λ bits. is_expr bits e ≡ true) shows.bits formed) (record {
      reads = all_parts (IsHeld s scene.values scope.variables) got_by (parts_of e) shows.reads;
      addresses = all_parts (IsPlaced s scene.base scope.variables) addressed_by (parts_of e) shows.addresses;
    }) in
    subst (λ bits. IsText scope way (width_of bits e) (value_of (record { bits = bits; values = scene.values; base = scene.base; memory = scene.memory }) e) (text s way votes e)) (sym shows.bits)
    (subst (λ w. IsText scope way w (value_of (record { bits = s.bits; values = scene.values; base = scene.base; memory = scene.memory }) e) (text s way votes e)) (sym x.width)
    (as-text scope way x.size _ _ (x.gives way votes)))
