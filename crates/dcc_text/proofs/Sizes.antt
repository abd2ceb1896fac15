-- The widths of expressions, and the number types in which a text holds numbers of these widths.
use Rattle.std.proofs.Common.{◌≡◌, ℕ, ◌+◌, ◌-◌, ◌%◌, ◌^◌, ◌<◌, Bool, true, false, ◌==◌, inl, inr, refl, sym, ap, ◌∙◌, true≢false, arith, mod-eq_of_lt}
use Rattle.std.specs.Prelude.{◌||◌, if◌then◌else◌}
use Rattle.std.proofs.lemmas.Bool.{eqb-true, cases_Bool, lt-leb}
use Rattle.dcc_ir.specs.WellFormed.{is_width}
use Rattle.dcc_c.specs.declared.syntax.Base.{Base}
use Rattle.dcc_c.specs.declared.syntax.Base.TheVariants.{Uchar, Int, Uint, Ulong}
use Rattle.dcc_c.specs.Types.{bits_of, promoted_type, common_type, is_negative, extended_bits, convert}

-- the widths
pub data Size : Type 0 where
  bit : Size
  byte : Size
  word : Size
  long : Size

abbrev pub bits : Size → ℕ
bits bit = 1
bits byte = 8
bits word = 16
bits long = 32

none_of : (a b c d : Bool) → (a || b || c || d) ≡ true → a ≡ false → b ≡ false → c ≡ false → d ≡ false → ⊥
none_of true b c d is na nb nc nd = true≢false na
none_of false true c d is na nb nc nd = true≢false nb
none_of false false true d is na nb nc nd = true≢false nc
none_of false false false true is na nb nc nd = true≢false nd
none_of false false false false is na nb nc nd = true≢false (sym is)

-- a width is one of the four
pub size-of : (width : ℕ) → is_width width ≡ true → (size : Size) × (width ≡ bits size)
size-of width is = elim (cases_Bool (width == 1)) [
  | inl one ↦ (bit, eqb-true width 1 one)
  | inr not_one ↦ elim (cases_Bool (width == 8)) [
    | inl eight ↦ (byte, eqb-true width 8 eight)
    | inr not_eight ↦ elim (cases_Bool (width == 16)) [
      | inl sixteen ↦ (word, eqb-true width 16 sixteen)
      | inr not_sixteen ↦ elim (cases_Bool (width == 32)) [
        | inl all ↦ (long, eqb-true width 32 all)
        | inr not_all ↦ absurd (none_of (width == 1) (width == 8) (width == 16) (width == 32) is not_one not_eight not_sixteen not_all)
      ]
    ]
  ]
]

-- numbers of a size may have the type
abbrev pub holds : Size → Base → Bool
holds bit Uchar = true
holds bit Int = true
holds byte Uchar = true
holds byte Int = true
holds word Uint = true
holds long Ulong = true
holds size base = false

-- the type in which operators reckon on numbers of a size
abbrev pub reckons : Size → Base
reckons bit = Int
reckons byte = Int
reckons word = Uint
reckons long = Ulong

pub promoted-is : (size : Size) (a : Base) → holds size a ≡ true → promoted_type a ≡ reckons size
promoted-is bit Uchar is = refl
promoted-is bit Int is = refl
promoted-is byte Uchar is = refl
promoted-is byte Int is = refl
promoted-is word Uint is = refl
promoted-is long Ulong is = refl
promoted-is size base is = absurd (true≢false (sym is))

pub common-is : (size : Size) (a b : Base) → holds size a ≡ true → holds size b ≡ true → common_type a b ≡ reckons size
common-is bit Uchar Uchar is also = refl
common-is bit Uchar Int is also = refl
common-is bit Int Uchar is also = refl
common-is bit Int Int is also = refl
common-is byte Uchar Uchar is also = refl
common-is byte Uchar Int is also = refl
common-is byte Int Uchar is also = refl
common-is byte Int Int is also = refl
common-is word Uint Uint is also = refl
common-is long Ulong Ulong is also = refl
common-is bit Uchar b is also = absurd (true≢false (sym also))
common-is bit Int b is also = absurd (true≢false (sym also))
common-is byte Uchar b is also = absurd (true≢false (sym also))
common-is byte Int b is also = absurd (true≢false (sym also))
common-is word Uint b is also = absurd (true≢false (sym also))
common-is long Ulong b is also = absurd (true≢false (sym also))
common-is size a b is also = absurd (true≢false (sym is))

-- a small number is not below 0 as an int
pub small-positive : (n : ℕ) → n < 32768 → is_negative Int n ≡ false
small-positive n small = lt-leb 32768 n small

pub small-extended : (n : ℕ) → n < 32768 → extended_bits Int n ≡ n
small-extended n small = ap (λ b. if b then n + (2 ^ 32 - 2 ^ 16) else n) (small-positive n small)

-- no number of a size is below 0
pub is-positive : (size : Size) (a : Base) (n : ℕ) → holds size a ≡ true → n < 2 ^ bits size → is_negative a n ≡ false
is-positive bit Uchar n is fits = refl
is-positive bit Int n is fits = small-positive n (omega (arith, fits))
is-positive byte Uchar n is fits = refl
is-positive byte Int n is fits = small-positive n (omega (arith, fits))
is-positive word Uint n is fits = refl
is-positive long Ulong n is fits = refl
is-positive size base n is fits = absurd (true≢false (sym is))

pub extended-is : (size : Size) (a : Base) (n : ℕ) → holds size a ≡ true → n < 2 ^ bits size → extended_bits a n ≡ n
extended-is size a n is fits = ap (λ b. if b then n + (2 ^ 32 - 2 ^ bits_of a) else n) (is-positive size a n is fits)

-- a number of a size stays the same in the type in which operators reckon
pub kept : (size : Size) (a : Base) (n : ℕ) → holds size a ≡ true → n < 2 ^ bits size → convert a (reckons size) n ≡ n
kept size a n is fits = ap (λ m. m % 2 ^ bits_of (reckons size)) (extended-is size a n is fits) ∙ same size fits
  where
    same : (s : Size) → n < 2 ^ bits s → n % 2 ^ bits_of (reckons s) ≡ n
    same bit fits = mod-eq_of_lt (omega (arith, fits))
    same byte fits = mod-eq_of_lt (omega (arith, fits))
    same word fits = mod-eq_of_lt fits
    same long fits = mod-eq_of_lt fits
