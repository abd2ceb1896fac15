-- Which expressions of a text can be written and are numbers: numbers, casts and operators.
use Rattle.std.proofs.Common.{◌≡◌, ℕ, ◌-◌, ◌^◌, ◌<◌, ◌≤◌, inl, inr, Bool, true, false, ◌==◌, List, Some, None, refl, sym, ap, ◌∙◌, true≢false, arith}
use Rattle.std.specs.Prelude.{◌&&◌, nat_lt, nat_le, if◌then◌else◌, option_and_then}
use Rattle.std.proofs.lemmas.Bool.{cases_Bool, and_from, le-leb, ltb-true}
use Rattle.std.proofs.lemmas.Bool.Decides.{nat_tests}
use Rattle.dcc_c.specs.declared.syntax.Base.{Base}
use Rattle.dcc_c.specs.declared.syntax.Base.TheVariants.{Schar, Uchar, Int, Uint, Long, Ulong}
use Rattle.dcc_c.specs.declared.syntax.CType.{CType}
use Rattle.dcc_c.specs.declared.syntax.CUn.TheVariants.{Minus, Complement, Deref}
use Rattle.dcc_c.specs.declared.syntax.CBin.{CBin}
use Rattle.dcc_c.specs.declared.syntax.CBin.TheVariants.{OrOr, AndAnd, Or, Xor, And, Eq, Ne, Lt, Le, Gt, Ge, Shl, Shr, Add, Sub, Mul, Div, Rem}
use Rattle.dcc_c.specs.Rules.{is_word_base}
use Rattle.dcc_c.specs.Token.{plain_number, unsigned_suffix, long_suffix, unsigned_long_suffix}
use Rattle.dcc_c.specs.Tree.{Expr, Number, Unary, Binary, Conditional, Cast}
use Rattle.dcc_c.specs.Types.{promoted_type, common_type, plain, pointer_to}
use Rattle.dcc_c.specs.Typing.{Declared, unary_type, numbers_type, both_types, tested_type, both_arms_type, type_of}
use Rattle.dcc_c.specs.Written.{suffix_gives, suffix_for}
use Rattle.dcc_c.proofs.Writable.{is_small, is_writable_expr}
use Rattle.dcc_text.specs.Allowed.{IsAllowedExpr}
use Rattle.dcc_text.specs.Spelled.{Way, Low, Exact, Signed, unsigned_type, signed_type, reckoning_type, small, cut, signed_reading, cut_to, taken, constant}
use Rattle.dcc_text.proofs.Sizes.{Size, bit, byte, word, long, bits}

-- Types of a word or less.

abbrev pub is_narrow : Base → Bool
is_narrow base = is_word_base (promoted_type base)

common-narrow : (a b : Base) → is_narrow a ≡ true → is_narrow b ≡ true → is_narrow (common_type a b) ≡ true
common-narrow Schar Schar is also = refl
common-narrow Schar Uchar is also = refl
common-narrow Schar Int is also = refl
common-narrow Schar Uint is also = refl
common-narrow Uchar Schar is also = refl
common-narrow Uchar Uchar is also = refl
common-narrow Uchar Int is also = refl
common-narrow Uchar Uint is also = refl
common-narrow Int Schar is also = refl
common-narrow Int Uchar is also = refl
common-narrow Int Int is also = refl
common-narrow Int Uint is also = refl
common-narrow Uint Schar is also = refl
common-narrow Uint Uchar is also = refl
common-narrow Uint Int is also = refl
common-narrow Uint Uint is also = refl
common-narrow Long b is also = absurd (true≢false (sym is))
common-narrow Ulong b is also = absurd (true≢false (sym is))
common-narrow a Long is also = absurd (true≢false (sym also))
common-narrow a Ulong is also = absurd (true≢false (sym also))

promoted-narrow : (a : Base) → is_narrow a ≡ true → is_narrow (promoted_type a) ≡ true
promoted-narrow Schar is = refl
promoted-narrow Uchar is = refl
promoted-narrow Int is = refl
promoted-narrow Uint is = refl
promoted-narrow Long is = is
promoted-narrow Ulong is = is

numbers-narrow : (operator : CBin) (a b : Base) → is_narrow a ≡ true → is_narrow b ≡ true → is_narrow (numbers_type operator a b) ≡ true
numbers-narrow OrOr a b is also = refl
numbers-narrow AndAnd a b is also = refl
numbers-narrow Eq a b is also = refl
numbers-narrow Ne a b is also = refl
numbers-narrow Lt a b is also = refl
numbers-narrow Le a b is also = refl
numbers-narrow Gt a b is also = refl
numbers-narrow Ge a b is also = refl
numbers-narrow Shl a b is also = promoted-narrow a is
numbers-narrow Shr a b is also = promoted-narrow a is
numbers-narrow Or a b is also = common-narrow a b is also
numbers-narrow Xor a b is also = common-narrow a b is also
numbers-narrow And a b is also = common-narrow a b is also
numbers-narrow Add a b is also = common-narrow a b is also
numbers-narrow Sub a b is also = common-narrow a b is also
numbers-narrow Mul a b is also = common-narrow a b is also
numbers-narrow Div a b is also = common-narrow a b is also
numbers-narrow Rem a b is also = common-narrow a b is also

pub unsigned-narrow : (width : ℕ) → width ≤ 16 → is_narrow (unsigned_type width) ≡ true
unsigned-narrow width few = by (nat_le width 8)
  where
    by : (b : Bool) → is_narrow (if b then Uchar else if nat_le width 16 then Uint else Ulong) ≡ true
    by true = refl
    by false = ap (λ c. is_narrow (if c then Uint else Ulong)) (le-leb width 16 few)

signed-narrow : (width : ℕ) → width ≤ 16 → is_narrow (signed_type width) ≡ true
signed-narrow width few = by (nat_le width 8)
  where
    by : (b : Bool) → is_narrow (if b then Schar else if nat_le width 16 then Int else Long) ≡ true
    by true = refl
    by false = ap (λ c. is_narrow (if c then Int else Long)) (le-leb width 16 few)

pub reckoning-narrow : (signed : Bool) (width : ℕ) → width ≤ 16 → is_narrow (reckoning_type signed width) ≡ true
reckoning-narrow signed width few = by signed (nat_le width 8)
  where
    by : (signed b : Bool) → is_narrow (if b then Int else if signed then signed_type width else unsigned_type width) ≡ true
    by signed true = refl
    by true false = signed-narrow width few
    by false false = unsigned-narrow width few

-- Numbers that can be written.

-- the numbers below this have a spelling with the type
abbrev pub limit : Base → ℕ
limit Schar = 0
limit Uchar = 0
limit Int = 32768
limit Uint = 65536
limit Long = 2147483648
limit Ulong = 4294967296

-- the suffix of the written form gives the type where some suffix does
chosen : (n : ℕ) (base : Base) (a b c : Bool) → suffix_gives n base plain_number ≡ a → suffix_gives n base unsigned_suffix ≡ b → suffix_gives n base long_suffix ≡ c
    → (if a then true else if b then true else if c then true else suffix_gives n base unsigned_long_suffix) ≡ true
    → suffix_gives n base (if a then plain_number else if b then unsigned_suffix else if c then long_suffix else unsigned_long_suffix) ≡ true
chosen n base true b c one two three any = one
chosen n base false true c one two three any = two
chosen n base false false true one two three any = three
chosen n base false false false one two three any = any

either_one : (a b c d : Bool) → b ≡ true → (if a then true else if b then true else if c then true else d) ≡ true
either_one true b c d is = refl
either_one false true c d is = refl
either_one false false c d is = absurd (true≢false (sym is))

either_later : (a b c d : Bool) → c ≡ true → (if a then true else if b then true else if c then true else d) ≡ true
either_later true b c d is = refl
either_later false true c d is = refl
either_later false false true d is = refl
either_later false false false d is = absurd (true≢false (sym is))

either_last : (a b c : Bool) → (if a then true else if b then true else if c then true else true) ≡ true
either_last true b c = refl
either_last false true c = refl
either_last false false true = refl
either_last false false false = refl

module _ (n : ℕ) where
  -- whether each suffix gives the type
  abbrev some_suffix : Base → Bool
  some_suffix base =
      if suffix_gives n base plain_number then true
      else if suffix_gives n base unsigned_suffix then true
      else if suffix_gives n base long_suffix then true
      else suffix_gives n base unsigned_long_suffix

  suffixed : (base : Base) → n < limit base → some_suffix base ≡ true
  suffixed Schar fits = absurd (omega (arith, fits))
  suffixed Uchar fits = absurd (omega (arith, fits))
  suffixed Int fits = rw (le-leb n 32767 (omega (arith, fits))) refl
  suffixed Uint fits =
      either_one (suffix_gives n Uint plain_number) (suffix_gives n Uint unsigned_suffix) (suffix_gives n Uint long_suffix) (suffix_gives n Uint unsigned_long_suffix)
      (rw (le-leb n 65535 (omega (arith, fits))) refl)
  suffixed Long fits =
      either_later (suffix_gives n Long plain_number) (suffix_gives n Long unsigned_suffix) (suffix_gives n Long long_suffix) (suffix_gives n Long unsigned_long_suffix)
      (rw (le-leb n 2147483647 (omega (arith, fits))) refl)
  suffixed Ulong fits = either_last (suffix_gives n Ulong plain_number) (suffix_gives n Ulong unsigned_suffix) (suffix_gives n Ulong long_suffix)

  below-all : (base : Base) → n < limit base → n ≤ 4294967295
  below-all Schar fits = absurd (omega (arith, fits))
  below-all Uchar fits = absurd (omega (arith, fits))
  below-all Int fits = omega (arith, fits)
  below-all Uint fits = omega (arith, fits)
  below-all Long fits = omega (arith, fits)
  below-all Ulong fits = omega (arith, fits)

  pub number-writable : (base : Base) → n < limit base → is_writable_expr (Number n base) ≡ true
  number-writable base fits =
      and_from (is_small n) (suffix_gives n base (suffix_for n base)) (le-leb n 4294967295 (below-all base fits))
      (chosen n base (suffix_gives n base plain_number) (suffix_gives n base unsigned_suffix) (suffix_gives n base long_suffix) refl refl refl (suffixed base fits))

-- Expressions.

module _ (names : List Declared) where
  -- an expression that can be written and has the type
  pub record IsTyped (type : CType) (e : Expr) : Type 0 where
    pub writable : is_writable_expr e ≡ true
    pub typed : type_of names e ≡ Some type

  abbrev Is : ℕ → Expr → Type 0
  Is width e = IsAllowedExpr names width e

  pub number-typed : {width : ℕ} {e : Expr} → (x : Is width e) → IsTyped (plain x.base) e
  number-typed x = record { writable = x.writable; typed = x.typed }

  pub plain-is : (width : ℕ) (base : Base) (e : Expr) → (width ≤ 16 → is_narrow base ≡ true) → IsTyped (plain base) e → Is width e
  plain-is width base e narrow x = record { writable = x.writable; base = base; typed = x.typed; narrow = narrow }

  -- what stands for a word or less stands for any width
  pub narrow-is : (few_bits width : ℕ) (e : Expr) → few_bits ≤ 16 → Is few_bits e → Is width e
  narrow-is few_bits width e few x = record { writable = x.writable; base = x.base; typed = x.typed; narrow = λ less. x.narrow few }

  pub either : (width : ℕ) (c : Bool) (a b : Expr) → Is width a → Is width b → Is width (if c then a else b)
  either width true a b x y = x
  either width false a b x y = y

  pub number-is : (width n : ℕ) (base : Base) → n < limit base → (width ≤ 16 → is_narrow base ≡ true) → Is width (Number n base)
  number-is width n base fits narrow = record { writable = number-writable n base fits; base = base; typed = refl; narrow = narrow }

  pub small-is : (width n : ℕ) → n < 32768 → Is width (small n)
  small-is width n fits = number-is width n Int fits (λ few. refl)

  pub cast-typed : (to from : CType) (e : Expr) → IsTyped from e → IsTyped to (Cast to e)
  cast-typed to from e x = record { writable = x.writable; typed = ap (elim [ Some type ↦ Some to | None ↦ None ]) x.typed }

  pub cast-is : (width : ℕ) (base : Base) (from : CType) (e : Expr) → (width ≤ 16 → is_narrow base ≡ true) → IsTyped from e → Is width (Cast (plain base) e)
  cast-is width base from e narrow x = plain-is width base (Cast (plain base) e) narrow (cast-typed (plain base) from e x)

  pub minus-is : (width : ℕ) (e : Expr) → Is width e → Is width (Unary Minus e)
  minus-is width e x = record {
    writable = x.writable;
    base = promoted_type x.base;
    typed = ap (option_and_then (unary_type Minus)) x.typed;
    narrow = λ few. promoted-narrow x.base (x.narrow few);
  }

  pub complement-is : (width : ℕ) (e : Expr) → Is width e → Is width (Unary Complement e)
  complement-is width e x = record {
    writable = x.writable;
    base = promoted_type x.base;
    typed = ap (option_and_then (unary_type Complement)) x.typed;
    narrow = λ few. promoted-narrow x.base (x.narrow few);
  }

  pub deref-is : (base : Base) (e : Expr) → IsTyped (pointer_to base) e → IsTyped (plain base) (Unary Deref e)
  deref-is base e x = record { writable = x.writable; typed = ap (option_and_then (unary_type Deref)) x.typed }

  pub binary-is : (width : ℕ) (operator : CBin) (a b : Expr) → Is width a → Is width b → Is width (Binary operator a b)
  binary-is width operator a b x y = record {
    writable = and_from (is_writable_expr a) (is_writable_expr b) x.writable y.writable;
    base = numbers_type operator x.base y.base;
    typed = ap (λ t. both_types operator t (type_of names b)) x.typed ∙ ap (both_types operator (Some (plain x.base))) y.typed;
    narrow = λ few. numbers-narrow operator x.base y.base (x.narrow few) (y.narrow few);
  }

  -- the bases of a truth value's operands do not matter
  pub truth-is : (width other : ℕ) (operator : CBin) (a b : Expr) → ((c d : Base) → numbers_type operator c d ≡ Int) → Is other a → Is other b → Is width (Binary operator a b)
  truth-is width other operator a b truth x y = record {
    writable = and_from (is_writable_expr a) (is_writable_expr b) x.writable y.writable;
    base = Int;
    typed = ap (λ t. both_types operator t (type_of names b)) x.typed ∙ ap (both_types operator (Some (plain x.base))) y.typed ∙ ap (λ base. Some (plain base)) (truth x.base y.base);
    narrow = λ few. refl;
  }

  pub choice-is : (width : ℕ) {other : ℕ} (test a b : Expr) → Is other test → Is width a → Is width b → Is width (Conditional test a b)
  choice-is width test a b t x y = record {
    writable = and_from (is_writable_expr test) (is_writable_expr a && is_writable_expr b) t.writable (and_from (is_writable_expr a) (is_writable_expr b) x.writable y.writable);
    base = common_type x.base y.base;
    typed = ap (λ o. tested_type o (both_arms_type (type_of names a) (type_of names b))) t.typed
        ∙ ap (λ o. both_arms_type o (type_of names b)) x.typed ∙ ap (both_arms_type (Some (plain x.base))) y.typed;
    narrow = λ few. common-narrow x.base y.base (x.narrow few) (y.narrow few);
  }

  -- From one way to another.

  pub cut-is : (width : ℕ) (from : CType) (e : Expr) → IsTyped from e → Is width (cut width e)
  cut-is width from e x =
      let low : Is width (Cast (plain (unsigned_type width)) e) = cast-is width (unsigned_type width) from e (unsigned-narrow width) x in
      either width (width == 1) (Binary And (Cast (plain (unsigned_type width)) e) (small 1)) (Cast (plain (unsigned_type width)) e)
      (binary-is width And _ (small 1) low (small-is width 1 (omega arith))) low

  pub reading-is : (width : ℕ) (e : Expr) → Is width e → Is width (signed_reading width e)
  reading-is width e x =
      either width (width == 1) (Unary Minus e) (Cast (plain (signed_type width)) e) (minus-is width e x)
      (cast-is width (signed_type width) (plain x.base) e (signed-narrow width) (number-typed x))

  pub cut-to-is : (way : Way) (width : ℕ) (from : CType) (e : Expr) → IsTyped from e → Is width (cut_to way width e)
  cut-to-is Low width from e x = cut-is width from e x
  cut-to-is Exact width from e x = cut-is width from e x
  cut-to-is Signed width from e x = by (width == 1)
    where
      by : (b : Bool) → Is width (if b then Unary Minus (if b then cut 1 e else e) else Cast (plain (signed_type width)) (if b then cut 1 e else e))
      by true = minus-is width (cut 1 e) (narrow-is 1 width (cut 1 e) (omega arith) (cut-is 1 from e x))
      by false = cast-is width (signed_type width) from e (signed-narrow width) x

  pub taken-is : (have want : Way) (width : ℕ) (e : Expr) → Is width e → Is width (taken have want width e)
  taken-is have Low width e x = x
  taken-is Exact Exact width e x = x
  taken-is Exact Signed width e x = reading-is width e x
  taken-is Low Exact width e x = cut-is width (plain x.base) e (number-typed x)
  taken-is Low Signed width e x = cut-to-is Signed width (plain x.base) e (number-typed x)
  taken-is Signed Exact width e x = cut-is width (plain x.base) e (number-typed x)
  taken-is Signed Signed width e x = x

  -- Constants.

  unsigned-fits : (size : Size) (n : ℕ) → n < 2 ^ bits size → n < limit (reckoning_type false (bits size))
  unsigned-fits bit n fits = omega (arith, fits)
  unsigned-fits byte n fits = omega (arith, fits)
  unsigned-fits word n fits = fits
  unsigned-fits long n fits = fits

  signed-fits : (size : Size) (n : ℕ) → n < 2 ^ (bits size - 1) → n < limit (reckoning_type true (bits size))
  signed-fits bit n fits = omega (arith, fits)
  signed-fits byte n fits = omega (arith, fits)
  signed-fits word n fits = fits
  signed-fits long n fits = fits

  reckoned-is : (signed : Bool) (size : Size) (n : ℕ) → n < limit (reckoning_type signed (bits size)) → Is (bits size) (Number n (reckoning_type signed (bits size)))
  reckoned-is signed size n fits = number-is (bits size) n (reckoning_type signed (bits size)) fits (reckoning-narrow signed (bits size))

  unsigned-is : (size : Size) (n : ℕ) → n < 2 ^ bits size → Is (bits size) (Number n (reckoning_type false (bits size)))
  unsigned-is size n fits = reckoned-is false size n (unsigned-fits size n fits)

  signed-is : (size : Size) (n : ℕ) → n < 2 ^ (bits size - 1) → Is (bits size) (Number n (reckoning_type true (bits size)))
  signed-is size n fits = reckoned-is true size n (signed-fits size n fits)

  -- what is above the half is below it when it is taken from the whole
  above-half : (size : Size) (n : ℕ) → n < 2 ^ bits size → nat_lt n (2 ^ (bits size - 1)) ≡ false → (n == 2 ^ (bits size - 1)) ≡ false → 2 ^ bits size - n < 2 ^ (bits size - 1)
  above-half bit n fits high apart = grind (arith, nat_tests)
  above-half byte n fits high apart = grind (arith, nat_tests)
  above-half word n fits high apart = grind (arith, nat_tests)
  above-half long n fits high apart = grind (arith, nat_tests)

  pub constant-is : (way : Way) (size : Size) (n : ℕ) → n < 2 ^ bits size → Is (bits size) (constant way (bits size) n)
  constant-is Exact size n fits = unsigned-is size n fits
  constant-is Low size n fits = elim (cases_Bool (nat_lt n (2 ^ (bits size - 1)))) [
    | inl low ↦ rw low (signed-is size n (ltb-true n (2 ^ (bits size - 1)) low))
    | inr high ↦ rw high (unsigned-is size n fits)
  ]
  constant-is Signed size n fits = elim (cases_Bool (nat_lt n (2 ^ (bits size - 1)))) [
    | inl low ↦ rw low (signed-is size n (ltb-true n (2 ^ (bits size - 1)) low))
    | inr high ↦ rw high (elim (cases_Bool (n == 2 ^ (bits size - 1))) [
      | inl half ↦ rw half (let x = unsigned-is size n fits in cut-to-is Signed (bits size) (plain x.base) _ (number-typed x))
      | inr apart ↦ rw apart (minus-is (bits size) _ (signed-is size (2 ^ bits size - n) (above-half size n fits high apart)))
    ])
  ]
