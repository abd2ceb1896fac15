-- Without needless casts expressions have their values, or values of the same low bits.
use Rattle.std.proofs.Common.{◌≡◌, ℕ, ◌+◌, ◌-◌, ◌*◌, ◌%◌, ◌^◌, ◌≤◌, Bool, true, false, ◌&&◌, ◌||◌, not, List, ◌++◌, map, Some, refl, sym, ap, ap₂, ◌∙◌, subst}
use Rattle.std.specs.Prelude.{nat_le, bit_and, bit_or, bit_xor, if◌then◌else◌}
use Rattle.std.proofs.lemmas.Bool.{leb-true, or_left, or_right}
use Rattle.dcc_c.specs.declared.syntax.Base.{Base}
use Rattle.dcc_c.specs.declared.syntax.Base.TheVariants.{Schar, Uchar, Int, Uint, Long, Ulong}
use Rattle.dcc_c.specs.declared.syntax.CType.{CType}
use Rattle.dcc_c.specs.declared.syntax.CUn.{CUn}
use Rattle.dcc_c.specs.declared.syntax.CUn.TheVariants.{Minus, Complement, Not, Deref, AddressOf}
use Rattle.dcc_c.specs.declared.syntax.CBin.{CBin}
use Rattle.dcc_c.specs.declared.syntax.CBin.TheVariants.{OrOr, AndAnd, Or, Xor, And, Eq, Ne, Lt, Le, Gt, Ge, Shl, Shr, Add, Sub, Mul, Div, Rem}
use Rattle.dcc_c.specs.Types.{bits_of, promoted_type, common_type, extended_bits, convert, plain, number_of_type}
use Rattle.dcc_c.specs.Arithmetic.{shifted_left}
use Rattle.dcc_c.specs.Tree.{Expr, Number, Name, Unary, Binary, Conditional, Cast, Lines}
use Rattle.dcc_c.specs.Parts.{parts_of}
use Rattle.dcc_c.specs.Placement.{is_address_of}
use Rattle.dcc_c.specs.Typing.{Declared, unary_type, both_arms_type, type_of}
use Rattle.dcc_c.specs.Rules.{is_number}
use Rattle.dcc_c.specs.Value.{Value, value, number, is_zero, converted, Outcome, Gives, Divides, Undefined, and_then, declared_by, Scope, unary_value, unary_number, truth_value, pointed_value, binary_value, numbers_value, both_values, chosen, value_of}
use Rattle.dcc_c.proofs.TypingLaws.{IsOf, ArePlaced, typed-has_value}
use Rattle.dcc_progress.proofs.Bodies.{any_left, any_right}
use Rattle.dcc_progress.proofs.Declarations.{AreAs, Takes, takes-later, typed-as}
use Rattle.dcc_respell.specs.Respelled.{Both}
use Rattle.dcc_casts.specs.Casts.{carries, carries_one, is_left_shift, room_of, kept, lowered}
use Rattle.dcc_casts.proofs.Low.{Count, eight, sixteen, thirty_two, of_count, low, is_wide, is_small, cut-low, within, sum-low, product-low, difference-low, and-low, or-low, xor-low, negated-low, complement-low, shift_low, shift-low}
use Rattle.dcc_casts.proofs.Shapes.{kept-addresses, lowered-addresses}
use Rattle.dcc_casts.proofs.Types.{number-typed, tested-number, plain-is, pointer-kept, kept-typed, lowered-typed, operand-has, both-have, three-have, cast-has}

-- Types in which operators reckon.

promoted-wide : (a : Base) → is_wide (promoted_type a) ≡ true
promoted-wide Schar = refl
promoted-wide Uchar = refl
promoted-wide Int = refl
promoted-wide Uint = refl
promoted-wide Long = refl
promoted-wide Ulong = refl

common-wide : (a b : Base) → is_wide (common_type a b) ≡ true
common-wide Schar Schar = refl
common-wide Schar Uchar = refl
common-wide Schar Int = refl
common-wide Schar Uint = refl
common-wide Schar Long = refl
common-wide Schar Ulong = refl
common-wide Uchar Schar = refl
common-wide Uchar Uchar = refl
common-wide Uchar Int = refl
common-wide Uchar Uint = refl
common-wide Uchar Long = refl
common-wide Uchar Ulong = refl
common-wide Int Schar = refl
common-wide Int Uchar = refl
common-wide Int Int = refl
common-wide Int Uint = refl
common-wide Int Long = refl
common-wide Int Ulong = refl
common-wide Uint Schar = refl
common-wide Uint Uchar = refl
common-wide Uint Int = refl
common-wide Uint Uint = refl
common-wide Uint Long = refl
common-wide Uint Ulong = refl
common-wide Long Schar = refl
common-wide Long Uchar = refl
common-wide Long Int = refl
common-wide Long Uint = refl
common-wide Long Long = refl
common-wide Long Ulong = refl
common-wide Ulong Schar = refl
common-wide Ulong Uchar = refl
common-wide Ulong Int = refl
common-wide Ulong Uint = refl
common-wide Ulong Long = refl
common-wide Ulong Ulong = refl

-- Evaluations.

pub both-then : {A B : Type 0} (P : A → A → Type 0) (Q : B → B → Type 0) (next further : A → Outcome B) (o p : Outcome A) → Both P o p → ((a b : A) → o ≡ Gives a → p ≡ Gives b → P a b → Both Q (next a) (further b)) →
    Both Q (and_then next o) (and_then further p)
both-then P Q next further (Gives a) (Gives b) both more = more a b refl refl both
both-then P Q next further Divides Divides both more = tt
both-then P Q next further (Gives a) Divides both more = absurd both
both-then P Q next further (Gives a) Undefined both more = absurd both
both-then P Q next further Divides (Gives b) both more = absurd both
both-then P Q next further Divides Undefined both more = absurd both
both-then P Q next further Undefined p both more = absurd both

-- what an evaluation that has a type gives
given-of : (t : CType) (o : Outcome Value) (v : Value) → IsOf t o → o ≡ Gives v → v.type ≡ t
given-of t (Gives w) v is same = let one : w ≡ v = gives same in ap (λ (x : Value). x.type) (sym one) ∙ is
  where
    gives : Gives w ≡ Gives v → w ≡ v
    gives e = cc
given-of t Divides v is same = absurd cc
given-of t Undefined v is same = absurd cc

-- an evaluation that has a type gives what it gives
own-both : (P : Value → Value → Type 0) (t : CType) (o p : Outcome Value) → IsOf t o → p ≡ o → ((v : Value) → P v v) → Both P o p
own-both P t (Gives v) p is same all = subst (Both P (Gives v)) (sym same) (all v)
own-both P t Divides p is same all = subst (Both P Divides) (sym same) tt
own-both P t Undefined p is same all = absurd is

both-weaker : (P Q : Value → Value → Type 0) (o p : Outcome Value) → ((v w : Value) → o ≡ Gives v → p ≡ Gives w → P v w → Q v w) → Both P o p → Both Q o p
both-weaker P Q (Gives v) (Gives w) more both = more v w refl refl both
both-weaker P Q Divides Divides more both = tt
both-weaker P Q (Gives v) Divides more both = absurd both
both-weaker P Q (Gives v) Undefined more both = absurd both
both-weaker P Q Divides (Gives w) more both = absurd both
both-weaker P Q Divides Undefined more both = absurd both
both-weaker P Q Undefined p more both = absurd both

-- Operators.

-- what is made of the low bits of both operands
abbrev made_of : CBin → ℕ → ℕ → ℕ → ℕ
made_of Add C x y = (x + y) % C
made_of Sub C x y = (x + (C - y)) % C
made_of Mul C x y = (x * y) % C
made_of Or C x y = bit_or x y
made_of Xor C x y = bit_xor x y
made_of And C x y = bit_and x y
made_of operator C x y = 0

eager : (operator : CBin) → (carries operator || is_left_shift operator) ≡ true → (scope : Scope) (a b : Expr) →
    value_of scope (Binary operator a b) ≡ and_then (λ v. and_then (both_values operator v) (value_of scope b)) (value_of scope a)
eager OrOr is scope a b = absurd cc
eager AndAnd is scope a b = absurd cc
eager Or is scope a b = refl
eager Xor is scope a b = refl
eager And is scope a b = refl
eager Eq is scope a b = absurd cc
eager Ne is scope a b = absurd cc
eager Lt is scope a b = absurd cc
eager Le is scope a b = absurd cc
eager Gt is scope a b = absurd cc
eager Ge is scope a b = absurd cc
eager Shl is scope a b = refl
eager Shr is scope a b = absurd cc
eager Add is scope a b = refl
eager Sub is scope a b = refl
eager Mul is scope a b = refl
eager Div is scope a b = absurd cc
eager Rem is scope a b = absurd cc

-- an operator on two numbers of a type: the low bits of what it makes
record Made (operator : CBin) (c : Count) (t : Base) (x y : ℕ) : Type 0 where
  result : ℕ
  gives : binary_value operator t (x % 2 ^ bits_of t) (y % 2 ^ bits_of t) ≡ Gives (number t result)
  lows : extended_bits t result % 2 ^ of_count c ≡ made_of operator (2 ^ of_count c) (x % 2 ^ of_count c) (y % 2 ^ of_count c)

made : (operator : CBin) → carries operator ≡ true → (c : Count) (t : Base) → is_small c ≡ true → is_wide t ≡ true → (x y : ℕ) → Made operator c t x y
made OrOr is c t small wide x y = absurd cc
made AndAnd is c t small wide x y = absurd cc
made Or is c t small wide x y = record { result = _; gives = refl; lows = or-low c t small wide x y }
made Xor is c t small wide x y = record { result = _; gives = refl; lows = xor-low c t small wide x y }
made And is c t small wide x y = record { result = _; gives = refl; lows = and-low c t small wide x y }
made Eq is c t small wide x y = absurd cc
made Ne is c t small wide x y = absurd cc
made Lt is c t small wide x y = absurd cc
made Le is c t small wide x y = absurd cc
made Gt is c t small wide x y = absurd cc
made Ge is c t small wide x y = absurd cc
made Shl is c t small wide x y = absurd cc
made Shr is c t small wide x y = absurd cc
made Add is c t small wide x y = record { result = _; gives = refl; lows = sum-low c t small wide x y }
made Sub is c t small wide x y = record { result = _; gives = refl; lows = difference-low c t small wide x y }
made Mul is c t small wide x y = record { result = _; gives = refl; lows = product-low c t small wide x y }
made Div is c t small wide x y = absurd cc
made Rem is c t small wide x y = absurd cc

numbers-made : (operator : CBin) → carries operator ≡ true → (a : Base) (m : ℕ) (b : Base) (n : ℕ) →
    numbers_value operator a m b n ≡ binary_value operator (common_type a b) (extended_bits a m % 2 ^ bits_of (common_type a b)) (extended_bits b n % 2 ^ bits_of (common_type a b))
numbers-made OrOr is a m b n = absurd cc
numbers-made AndAnd is a m b n = absurd cc
numbers-made Or is a m b n = refl
numbers-made Xor is a m b n = refl
numbers-made And is a m b n = refl
numbers-made Eq is a m b n = absurd cc
numbers-made Ne is a m b n = absurd cc
numbers-made Lt is a m b n = absurd cc
numbers-made Le is a m b n = absurd cc
numbers-made Gt is a m b n = absurd cc
numbers-made Ge is a m b n = absurd cc
numbers-made Shl is a m b n = absurd cc
numbers-made Shr is a m b n = absurd cc
numbers-made Add is a m b n = refl
numbers-made Sub is a m b n = refl
numbers-made Mul is a m b n = refl
numbers-made Div is a m b n = absurd cc
numbers-made Rem is a m b n = absurd cc

-- two numbers
numbers-both : (operator : CBin) (v w : Value) (a b : Base) → v.type ≡ plain a → w.type ≡ plain b → both_values operator v w ≡ numbers_value operator a v.bits b w.bits
numbers-both operator v w a b is also = by v.type w.type is also
  where
    by : (s t : CType) → s ≡ plain a → t ≡ plain b → both_values operator (value s v.bits) (value t w.bits) ≡ numbers_value operator a v.bits b w.bits
    by s t is also = subst (λ u. both_values operator (value u v.bits) (value t w.bits) ≡ numbers_value operator a v.bits b w.bits) (sym is) (subst (λ u. both_values operator (value (plain a) v.bits) (value u w.bits) ≡ numbers_value operator a v.bits b w.bits) (sym also) refl)

-- the low bits of a number
low-is : (c : ℕ) (v : Value) (a : Base) → v.type ≡ plain a → low c v ≡ extended_bits a v.bits % 2 ^ c
low-is c v a is = ap (λ t. extended_bits (number_of_type t) v.bits % 2 ^ c) is

abbrev pub SameLow : Count → Value → Value → Type 0
SameLow c v w = low (of_count c) w ≡ low (of_count c) v

module _ (operator : CBin) (is : carries operator ≡ true) (c : Count) (small : is_small c ≡ true) (v w v' w' : Value) (a b a' b' : Base)
    (v_is : v.type ≡ plain a) (w_is : w.type ≡ plain b) (v'_is : v'.type ≡ plain a') (w'_is : w'.type ≡ plain b') (first : SameLow c v v') (second : SameLow c w w') where
  carried-low : Both (SameLow c) (both_values operator v w) (both_values operator v' w')
  carried-low =
      let t = common_type a b in
      let u = common_type a' b' in
      let one = made operator is c t small (common-wide a b) (extended_bits a v.bits) (extended_bits b w.bits) in
      let two = made operator is c u small (common-wide a' b') (extended_bits a' v'.bits) (extended_bits b' w'.bits) in
      let gives : both_values operator v w ≡ Gives (number t one.result) = numbers-both operator v w a b v_is w_is ∙ numbers-made operator is a v.bits b w.bits ∙ one.gives in
      let other : both_values operator v' w' ≡ Gives (number u two.result) = numbers-both operator v' w' a' b' v'_is w'_is ∙ numbers-made operator is a' v'.bits b' w'.bits ∙ two.gives in
      let left : extended_bits a' v'.bits % 2 ^ of_count c ≡ extended_bits a v.bits % 2 ^ of_count c = sym (low-is (of_count c) v' a' v'_is) ∙ first ∙ low-is (of_count c) v a v_is in
      let right : extended_bits b' w'.bits % 2 ^ of_count c ≡ extended_bits b w.bits % 2 ^ of_count c = sym (low-is (of_count c) w' b' w'_is) ∙ second ∙ low-is (of_count c) w b w_is in
      subst (λ o. Both (SameLow c) o (both_values operator v' w')) (sym gives) (subst (Both (SameLow c) (Gives (number t one.result))) (sym other)
      (two.lows ∙ ap₂ (made_of operator (2 ^ of_count c)) left right ∙ sym one.lows))

-- a shift, whose count is as it was
module _ (c : Count) (small : is_small c ≡ true) (v w v' : Value) (a b a' : Base) (v_is : v.type ≡ plain a) (w_is : w.type ≡ plain b) (v'_is : v'.type ≡ plain a') (first : SameLow c v v') where
  shifted-low : Both (SameLow c) (both_values Shl v w) (both_values Shl v' w)
  shifted-low =
      let t = promoted_type a in
      let u = promoted_type a' in
      let gives : both_values Shl v w ≡ Gives (number t (shifted_left t (convert a t v.bits) b w.bits)) = numbers-both Shl v w a b v_is w_is in
      let other : both_values Shl v' w ≡ Gives (number u (shifted_left u (convert a' u v'.bits) b w.bits)) = numbers-both Shl v' w a' b v'_is w_is in
      let left : extended_bits a' v'.bits % 2 ^ of_count c ≡ extended_bits a v.bits % 2 ^ of_count c = sym (low-is (of_count c) v' a' v'_is) ∙ first ∙ low-is (of_count c) v a v_is in
      subst (λ o. Both (SameLow c) o (both_values Shl v' w)) (sym gives) (subst (Both (SameLow c) (Gives (number t (shifted_left t (convert a t v.bits) b w.bits)))) (sym other)
      (shift-low c u small (promoted-wide a') (extended_bits a' v'.bits) b w.bits ∙ ap (shift_low (of_count c) b w.bits) left ∙ sym (shift-low c t small (promoted-wide a) (extended_bits a v.bits) b w.bits)))

-- an operator on one number
one-number-value : (operator : CUn) (v : Value) (a : Base) → v.type ≡ plain a → unary_value operator v ≡ unary_number operator (promoted_type a) (convert a (promoted_type a) v.bits)
one-number-value operator v a is = by v.type is
  where
    by : (t : CType) → t ≡ plain a → unary_value operator (value t v.bits) ≡ unary_number operator (promoted_type a) (convert a (promoted_type a) v.bits)
    by t is = subst (λ u. unary_value operator (value u v.bits) ≡ unary_number operator (promoted_type a) (convert a (promoted_type a) v.bits)) (sym is) refl

module _ (c : Count) (small : is_small c ≡ true) (v v' : Value) (a a' : Base) (v_is : v.type ≡ plain a) (v'_is : v'.type ≡ plain a') (first : SameLow c v v') where
  left-same : extended_bits a' v'.bits % 2 ^ of_count c ≡ extended_bits a v.bits % 2 ^ of_count c
  left-same = sym (low-is (of_count c) v' a' v'_is) ∙ first ∙ low-is (of_count c) v a v_is

  one-low : (operator : CUn) → carries_one operator ≡ true → Both (SameLow c) (unary_value operator v) (unary_value operator v')
  one-low Minus is =
      subst (λ o. Both (SameLow c) o (unary_value Minus v')) (sym (one-number-value Minus v a v_is)) (subst (Both (SameLow c) (unary_number Minus (promoted_type a) (convert a (promoted_type a) v.bits))) (sym (one-number-value Minus v' a' v'_is))
      (negated-low c (promoted_type a') small (promoted-wide a') (extended_bits a' v'.bits) 0 ∙ ap (λ x. (2 ^ of_count c - x) % 2 ^ of_count c) left-same ∙ sym (negated-low c (promoted_type a) small (promoted-wide a) (extended_bits a v.bits) 0)))
  one-low Complement is =
      subst (λ o. Both (SameLow c) o (unary_value Complement v')) (sym (one-number-value Complement v a v_is)) (subst (Both (SameLow c) (unary_number Complement (promoted_type a) (convert a (promoted_type a) v.bits))) (sym (one-number-value Complement v' a' v'_is))
      (complement-low c (promoted_type a') small (promoted-wide a') (extended_bits a' v'.bits) 0 ∙ ap (λ x. 2 ^ of_count c - 1 - x) left-same ∙ sym (complement-low c (promoted_type a) small (promoted-wide a) (extended_bits a v.bits) 0)))
  one-low Not is = absurd cc
  one-low Deref is = absurd cc
  one-low AddressOf is = absurd cc

-- a number as one of a type that has as many bits
converted-low : (c : Count) (t : Base) (v : Value) → of_count c ≤ bits_of t → low (of_count c) (converted (plain t) v) ≡ low (of_count c) v
converted-low c t v fits = cut-low c t (extended_bits (number_of_type v.type) v.bits) fits

-- Expressions of equal operands.

module _ (scope : Scope) where
  binary-same : (operator : CBin) (a b g h : Expr) → value_of scope g ≡ value_of scope a → value_of scope h ≡ value_of scope b → value_of scope (Binary operator g h) ≡ value_of scope (Binary operator a b)
  binary-same OrOr a b g h first second = ap₂ (λ x y. and_then (λ v. if is_zero v then and_then truth_value y else Gives v) (and_then truth_value x)) first second
  binary-same AndAnd a b g h first second = ap₂ (λ x y. and_then (λ v. if is_zero v then Gives v else and_then truth_value y) (and_then truth_value x)) first second
  binary-same Or a b g h first second = ap₂ (λ x y. and_then (λ v. and_then (both_values Or v) y) x) first second
  binary-same Xor a b g h first second = ap₂ (λ x y. and_then (λ v. and_then (both_values Xor v) y) x) first second
  binary-same And a b g h first second = ap₂ (λ x y. and_then (λ v. and_then (both_values And v) y) x) first second
  binary-same Eq a b g h first second = ap₂ (λ x y. and_then (λ v. and_then (both_values Eq v) y) x) first second
  binary-same Ne a b g h first second = ap₂ (λ x y. and_then (λ v. and_then (both_values Ne v) y) x) first second
  binary-same Lt a b g h first second = ap₂ (λ x y. and_then (λ v. and_then (both_values Lt v) y) x) first second
  binary-same Le a b g h first second = ap₂ (λ x y. and_then (λ v. and_then (both_values Le v) y) x) first second
  binary-same Gt a b g h first second = ap₂ (λ x y. and_then (λ v. and_then (both_values Gt v) y) x) first second
  binary-same Ge a b g h first second = ap₂ (λ x y. and_then (λ v. and_then (both_values Ge v) y) x) first second
  binary-same Shl a b g h first second = ap₂ (λ x y. and_then (λ v. and_then (both_values Shl v) y) x) first second
  binary-same Shr a b g h first second = ap₂ (λ x y. and_then (λ v. and_then (both_values Shr v) y) x) first second
  binary-same Add a b g h first second = ap₂ (λ x y. and_then (λ v. and_then (both_values Add v) y) x) first second
  binary-same Sub a b g h first second = ap₂ (λ x y. and_then (λ v. and_then (both_values Sub v) y) x) first second
  binary-same Mul a b g h first second = ap₂ (λ x y. and_then (λ v. and_then (both_values Mul v) y) x) first second
  binary-same Div a b g h first second = ap₂ (λ x y. and_then (λ v. and_then (both_values Div v) y) x) first second
  binary-same Rem a b g h first second = ap₂ (λ x y. and_then (λ v. and_then (both_values Rem v) y) x) first second

  -- the operand of an operator that takes a value
  unary-same : (operator : CUn) (a g : Expr) → (operator ≡ AddressOf → ⊥) → value_of scope g ≡ value_of scope a → value_of scope (Unary operator g) ≡ value_of scope (Unary operator a)
  unary-same Minus a g other same = ap (and_then (unary_value Minus)) same
  unary-same Complement a g other same = ap (and_then (unary_value Complement)) same
  unary-same Not a g other same = ap (and_then (unary_value Not)) same
  unary-same Deref a g other same = ap (and_then (pointed_value scope.memory)) same
  unary-same AddressOf a g other same = absurd (other refl)

-- counts of bits

pub count-of : (t : Base) → (c : Count) × (of_count c ≡ bits_of t)
count-of Schar = (eight, refl)
count-of Uchar = (eight, refl)
count-of Int = (sixteen, refl)
count-of Uint = (sixteen, refl)
count-of Long = (thirty_two, refl)
count-of Ulong = (thirty_two, refl)

small-count : (c : Count) → nat_le (of_count c) 16 ≡ true → is_small c ≡ true
small-count eight is = refl
small-count sixteen is = refl
small-count thirty_two is = absurd cc

-- values of the same low bits are one value of a type that has no more
converted-same : (c : Count) (type : CType) (o p : Outcome Value) → of_count c ≡ room_of type → Both (SameLow c) o p →
    and_then (λ v. Gives (converted type v)) p ≡ and_then (λ v. Gives (converted type v)) o
converted-same c type (Gives v) (Gives w) room both =
    ap (λ n. Gives (value type n)) (ap (λ k. extended_bits (number_of_type w.type) w.bits % 2 ^ k) (sym room) ∙ both ∙ ap (λ k. extended_bits (number_of_type v.type) v.bits % 2 ^ k) room)
converted-same c type Divides Divides room both = refl
converted-same c type (Gives v) Divides room both = absurd both
converted-same c type (Gives v) Undefined room both = absurd both
converted-same c type Divides (Gives w) room both = absurd both
converted-same c type Divides Undefined room both = absurd both
converted-same c type Undefined p room both = absurd both

left-shift : (operator : CBin) → is_left_shift operator ≡ true → operator ≡ Shl
left-shift OrOr is = absurd cc
left-shift AndAnd is = absurd cc
left-shift Or is = absurd cc
left-shift Xor is = absurd cc
left-shift And is = absurd cc
left-shift Eq is = absurd cc
left-shift Ne is = absurd cc
left-shift Lt is = absurd cc
left-shift Le is = absurd cc
left-shift Gt is = absurd cc
left-shift Ge is = absurd cc
left-shift Shl is = refl
left-shift Shr is = absurd cc
left-shift Add is = absurd cc
left-shift Sub is = absurd cc
left-shift Mul is = absurd cc
left-shift Div is = absurd cc
left-shift Rem is = absurd cc

-- one value goes on in two ways
same-then : (c : Count) (next further : Value → Outcome Value) (t : CType) (o : Outcome Value) → IsOf t o → ((v : Value) → o ≡ Gives v → Both (SameLow c) (next v) (further v)) → Both (SameLow c) (and_then next o) (and_then further o)
same-then c next further t (Gives v) is more = more v refl
same-then c next further t Divides is more = tt
same-then c next further t Undefined is more = absurd is

-- In a call of a function with this body, which declares these names.
module _ (body : Lines) (names : List Declared) (scope : Scope) (declared : AreAs body names (map declared_by scope.variables)) (placed : ArePlaced scope.variables) where
  abbrev own_names : List Declared
  own_names = map declared_by scope.variables

  abbrev TakesFor : Expr → Type 0
  TakesFor e = Takes body (parts_of e)

  own-typed : (e : Expr) (t : CType) → TakesFor e → type_of names e ≡ Some t → type_of own_names e ≡ Some t
  own-typed e t takes is = typed-as body names own_names declared e t takes is

  has-value : (e : Expr) (t : CType) → TakesFor e → type_of names e ≡ Some t → IsOf t (value_of scope e)
  has-value e t takes is = typed-has_value scope placed e t (own-typed e t takes is)

  kept-takes : (e : Expr) → TakesFor e → TakesFor (kept names e)
  kept-takes e takes word any = takes word (sym (kept-addresses names word e) ∙ any)

  lowered-takes : (bits : ℕ) (e : Expr) → TakesFor e → TakesFor (lowered names bits e)
  lowered-takes bits e takes word any = takes word (sym (lowered-addresses names word bits e) ∙ any)

  left-takes : (xs ys : List Expr) → Takes body (xs ++ ys) → Takes body xs
  left-takes xs ys takes word any = takes word (any_left (is_address_of word) xs ys any)

  right-takes : (xs ys : List Expr) → Takes body (xs ++ ys) → Takes body ys
  right-takes xs ys takes word any = takes word (any_right (is_address_of word) xs ys any)

  -- what is to be shown of an expression that has a type
  abbrev KeepsValue : Expr → Type 0
  KeepsValue e = (t : CType) → TakesFor e → type_of names e ≡ Some t → value_of scope (kept names e) ≡ value_of scope e

  abbrev LowersValue : Expr → Type 0
  LowersValue e = (c : Count) (b : Base) → TakesFor e → type_of names e ≡ Some (plain b) → Both (SameLow c) (value_of scope e) (value_of scope (lowered names (of_count c) e))

  unary-keeps : (operator : CUn) (a : Expr) → KeepsValue a → KeepsValue (Unary operator a)
  unary-keeps AddressOf (Name word) own t takes is = refl
  unary-keeps AddressOf (Number n base) own t takes is = absurd cc
  unary-keeps AddressOf (Unary operator a) own t takes is = absurd cc
  unary-keeps AddressOf (Binary operator a b) own t takes is = absurd cc
  unary-keeps AddressOf (Conditional a b c) own t takes is = absurd cc
  unary-keeps AddressOf (Cast type a) own t takes is = absurd cc
  unary-keeps Minus a own t takes is = let has = operand-has (unary_type Minus) (type_of names a) t is in ap (and_then (unary_value Minus)) (own has.0 (takes-later body (Unary Minus a) (parts_of a) takes) has.1)
  unary-keeps Complement a own t takes is = let has = operand-has (unary_type Complement) (type_of names a) t is in ap (and_then (unary_value Complement)) (own has.0 (takes-later body (Unary Complement a) (parts_of a) takes) has.1)
  unary-keeps Not a own t takes is = let has = operand-has (unary_type Not) (type_of names a) t is in ap (and_then (unary_value Not)) (own has.0 (takes-later body (Unary Not a) (parts_of a) takes) has.1)
  unary-keeps Deref a own t takes is = let has = operand-has (unary_type Deref) (type_of names a) t is in ap (and_then (pointed_value scope.memory)) (own has.0 (takes-later body (Unary Deref a) (parts_of a) takes) has.1)

  binary-keeps : (operator : CBin) (a b : Expr) → KeepsValue a → KeepsValue b → KeepsValue (Binary operator a b)
  binary-keeps operator a b first second t takes is =
      let has = both-have operator (type_of names a) (type_of names b) t is in
      let inner = takes-later body (Binary operator a b) (parts_of a ++ parts_of b) takes in
      binary-same scope operator a b (kept names a) (kept names b) (first has.0 (left-takes (parts_of a) (parts_of b) inner) has.2) (second has.1 (right-takes (parts_of a) (parts_of b) inner) has.3)

  -- the chosen arm becomes one of the arms' type
  arms-same : (a b c g h k : Expr) (u v : CType) → value_of scope g ≡ value_of scope a → value_of scope h ≡ value_of scope b → value_of scope k ≡ value_of scope c →
      type_of own_names b ≡ Some u → type_of own_names h ≡ Some u → type_of own_names c ≡ Some v → type_of own_names k ≡ Some v → value_of scope (Conditional g h k) ≡ value_of scope (Conditional a b c)
  arms-same a b c g h k u v first second third b_is h_is c_is k_is =
      let types : both_arms_type (type_of own_names h) (type_of own_names k) ≡ both_arms_type (type_of own_names b) (type_of own_names c) = ap₂ both_arms_type (h_is ∙ sym b_is) (k_is ∙ sym c_is) in
      ap (λ t. and_then (chosen t (value_of scope h) (value_of scope k)) (value_of scope g)) types
      ∙ ap₂ (λ x y. and_then (chosen (both_arms_type (type_of own_names b) (type_of own_names c)) x y) (value_of scope g)) second third
      ∙ ap (and_then (chosen (both_arms_type (type_of own_names b) (type_of own_names c)) (value_of scope b) (value_of scope c))) first

  arms-keep : (a b c : Expr) → KeepsValue a → KeepsValue b → KeepsValue c → KeepsValue (Conditional a b c)
  arms-keep a b c first second third t takes is =
      let has = three-have (type_of names a) (type_of names b) (type_of names c) t is in
      let inner = takes-later body (Conditional a b c) (parts_of a ++ (parts_of b ++ parts_of c)) takes in
      let arms = right-takes (parts_of a) (parts_of b ++ parts_of c) inner in
      let b_takes = left-takes (parts_of b) (parts_of c) arms in
      let c_takes = right-takes (parts_of b) (parts_of c) arms in
      arms-same a b c (kept names a) (kept names b) (kept names c) has.1 has.2
      (first has.0 (left-takes (parts_of a) (parts_of b ++ parts_of c) inner) has.3) (second has.1 b_takes has.4) (third has.2 c_takes has.5)
      (own-typed b has.1 b_takes has.4) (own-typed (kept names b) has.1 (kept-takes b b_takes) (kept-typed names b has.1 has.4))
      (own-typed c has.2 c_takes has.5) (own-typed (kept names c) has.2 (kept-takes c c_takes) (kept-typed names c has.2 has.5))

  cast-keeps : (type : CType) (a : Expr) → KeepsValue a → LowersValue a → KeepsValue (Cast type a)
  cast-keeps type a own lowers t takes is =
      let has = cast-has type (type_of names a) t is in
      let inner = takes-later body (Cast type a) (parts_of a) takes in
      by has.0 has.0.pointer refl has.1 inner
    where
      by : (u : CType) (p : Bool) → u.pointer ≡ p → type_of names a ≡ Some u → TakesFor a → and_then (λ v. Gives (converted type v)) (value_of scope (lowered names (room_of type) a)) ≡ and_then (λ v. Gives (converted type v)) (value_of scope a)
      by u true pointer has inner =
          ap (λ e. and_then (λ v. Gives (converted type v)) (value_of scope e)) (pointer-kept names (room_of type) a u has pointer) ∙ ap (and_then (λ v. Gives (converted type v))) (own u inner has)
      by u false pointer has inner =
          let c = count-of (number_of_type type) in
          ap (λ k. and_then (λ v. Gives (converted type v)) (value_of scope (lowered names k a))) (sym c.1)
          ∙ converted-same c.0 type (value_of scope a) (value_of scope (lowered names (of_count c.0) a)) c.1 (lowers c.0 u.base inner (has ∙ ap Some (plain-is u pointer)))

  -- what keeps its value has its low bits
  as-it-was : (c : Count) (e h : Expr) (t : CType) → TakesFor e → type_of names e ≡ Some t → value_of scope h ≡ value_of scope e → Both (SameLow c) (value_of scope e) (value_of scope h)
  as-it-was c e h t takes is same = own-both (SameLow c) t (value_of scope e) (value_of scope h) (has-value e t takes is) same (λ v. refl)

  one-eager : (operator : CUn) (x : Expr) → carries_one operator ≡ true → value_of scope (Unary operator x) ≡ and_then (unary_value operator) (value_of scope x)
  one-eager Minus x is = refl
  one-eager Complement x is = refl
  one-eager Not x is = absurd cc
  one-eager Deref x is = absurd cc
  one-eager AddressOf x is = absurd cc

  -- what an operand gives has its type, without needless casts too
  module _ (c : Count) (a : Expr) (a_takes : TakesFor a) (lowers : LowersValue a) (number : is_number names a ≡ true) where
    abbrev first_base : Base
    first_base = (number-typed names a number).0

    first-typed : type_of names a ≡ Some (plain first_base)
    first-typed = (number-typed names a number).1

    abbrev low_base : Base
    low_base = (lowered-typed names (of_count c) a first_base first-typed).0

    low-typed : type_of names (lowered names (of_count c) a) ≡ Some (plain low_base)
    low-typed = (lowered-typed names (of_count c) a first_base first-typed).1

    both-of : Both (SameLow c) (value_of scope a) (value_of scope (lowered names (of_count c) a))
    both-of = lowers c first_base a_takes first-typed

    first-is : (v : Value) → value_of scope a ≡ Gives v → v.type ≡ plain first_base
    first-is v gives = given-of (plain first_base) (value_of scope a) v (has-value a (plain first_base) a_takes first-typed) gives

    low-given : (w : Value) → value_of scope (lowered names (of_count c) a) ≡ Gives w → w.type ≡ plain low_base
    low-given w gives =
        given-of (plain low_base) (value_of scope (lowered names (of_count c) a)) w
        (has-value (lowered names (of_count c) a) (plain low_base) (lowered-takes (of_count c) a a_takes) low-typed) gives

  unary-lowers : (operator : CUn) (a : Expr) → KeepsValue a → LowersValue a → LowersValue (Unary operator a)
  unary-lowers operator a own lowers c b takes is = by (carries_one operator) (nat_le (of_count c) 16) (is_number names a) refl refl refl
    where
      a_takes : TakesFor a
      a_takes = takes-later body (Unary operator a) (parts_of a) takes

      by : (o f n : Bool) → carries_one operator ≡ o → nat_le (of_count c) 16 ≡ f → is_number names a ≡ n →
          Both (SameLow c) (value_of scope (Unary operator a)) (value_of scope (Unary operator (if o && (f && n) then lowered names (of_count c) a else kept names a)))
      by true true true carry few told =
          subst (λ o. Both (SameLow c) o (value_of scope (Unary operator (lowered names (of_count c) a)))) (sym (one-eager operator a carry))
          (subst (Both (SameLow c) (and_then (unary_value operator) (value_of scope a))) (sym (one-eager operator (lowered names (of_count c) a) carry))
          (both-then (SameLow c) (SameLow c) (unary_value operator) (unary_value operator) (value_of scope a) (value_of scope (lowered names (of_count c) a)) (both-of c a a_takes lowers told)
          (λ v w here there same. one-low c (small-count c few) v w (first_base c a a_takes lowers told) (low_base c a a_takes lowers told) (first-is c a a_takes lowers told v here) (low-given c a a_takes lowers told w there) same operator carry)))
      by true true false carry few told = as-it-was c (Unary operator a) (Unary operator (kept names a)) (plain b) takes is (unary-keeps operator a own (plain b) takes is)
      by true false n carry few told = as-it-was c (Unary operator a) (Unary operator (kept names a)) (plain b) takes is (unary-keeps operator a own (plain b) takes is)
      by false f n carry few told = as-it-was c (Unary operator a) (Unary operator (kept names a)) (plain b) takes is (unary-keeps operator a own (plain b) takes is)

  binary-lowers : (operator : CBin) (a d : Expr) → KeepsValue a → KeepsValue d → LowersValue a → LowersValue d → LowersValue (Binary operator a d)
  binary-lowers operator a d own also lowers others c b takes is = by (carries operator) (is_left_shift operator) (nat_le (of_count c) 16) (is_number names a) (is_number names d) refl refl refl refl refl
    where
      inner : Takes body (parts_of a ++ parts_of d)
      inner = takes-later body (Binary operator a d) (parts_of a ++ parts_of d) takes

      a_takes : TakesFor a
      a_takes = left-takes (parts_of a) (parts_of d) inner

      d_takes : TakesFor d
      d_takes = right-takes (parts_of a) (parts_of d) inner

      as-was : Both (SameLow c) (value_of scope (Binary operator a d)) (value_of scope (Binary operator (kept names a) (kept names d)))
      as-was = as-it-was c (Binary operator a d) (Binary operator (kept names a) (kept names d)) (plain b) takes is (binary-keeps operator a d own also (plain b) takes is)

      shl-is : is_left_shift operator ≡ true → operator ≡ Shl
      shl-is shift = left-shift operator shift

      by : (o s f n m : Bool) → carries operator ≡ o → is_left_shift operator ≡ s → nat_le (of_count c) 16 ≡ f → is_number names a ≡ n → is_number names d ≡ m →
          Both (SameLow c) (value_of scope (Binary operator a d))
          (value_of scope (Binary operator (if (o || s) && (f && (n && m)) then lowered names (of_count c) a else kept names a) (if o && (f && (n && m)) then lowered names (of_count c) d else kept names d)))
      by true s true true true carry shift few told also_told =
          let some : (carries operator || is_left_shift operator) ≡ true = or_left (carries operator) (is_left_shift operator) carry in
          subst (λ o. Both (SameLow c) o (value_of scope (Binary operator (lowered names (of_count c) a) (lowered names (of_count c) d)))) (sym (eager operator some scope a d))
          (subst (Both (SameLow c) (and_then (λ v. and_then (both_values operator v) (value_of scope d)) (value_of scope a))) (sym (eager operator some scope (lowered names (of_count c) a) (lowered names (of_count c) d)))
          (both-then (SameLow c) (SameLow c) (λ v. and_then (both_values operator v) (value_of scope d)) (λ v. and_then (both_values operator v) (value_of scope (lowered names (of_count c) d))) (value_of scope a) (value_of scope (lowered names (of_count c) a)) (both-of c a a_takes lowers told)
          (λ v w here there same. both-then (SameLow c) (SameLow c) (both_values operator v) (both_values operator w) (value_of scope d) (value_of scope (lowered names (of_count c) d)) (both-of c d d_takes others also_told)
          (λ x y x_here y_there alike. carried-low operator carry c (small-count c few) v x w y (first_base c a a_takes lowers told) (first_base c d d_takes others also_told) (low_base c a a_takes lowers told) (low_base c d d_takes others also_told)
          (first-is c a a_takes lowers told v here) (first-is c d d_takes others also_told x x_here) (low-given c a a_takes lowers told w there) (low-given c d d_takes others also_told y y_there) same alike))))
      by false true true true true carry shift few told also_told =
          let some : (carries operator || is_left_shift operator) ≡ true = or_right (carries operator) (is_left_shift operator) shift in
          let same_d : value_of scope (kept names d) ≡ value_of scope d = also (plain (first_base c d d_takes others also_told)) d_takes (first-typed c d d_takes others also_told) in
          subst (λ o. Both (SameLow c) o (value_of scope (Binary operator (lowered names (of_count c) a) (kept names d)))) (sym (eager operator some scope a d))
          (subst (Both (SameLow c) (and_then (λ v. and_then (both_values operator v) (value_of scope d)) (value_of scope a))) (sym (eager operator some scope (lowered names (of_count c) a) (kept names d)))
          (subst (λ o. Both (SameLow c) (and_then (λ v. and_then (both_values operator v) (value_of scope d)) (value_of scope a)) (and_then (λ v. and_then (both_values operator v) o) (value_of scope (lowered names (of_count c) a)))) (sym same_d)
          (both-then (SameLow c) (SameLow c) (λ v. and_then (both_values operator v) (value_of scope d)) (λ v. and_then (both_values operator v) (value_of scope d)) (value_of scope a) (value_of scope (lowered names (of_count c) a)) (both-of c a a_takes lowers told)
          (λ v w here there same. shifted-both operator (shl-is shift) v w (first_base c d d_takes others also_told) (value_of scope d) (has-value d (plain (first_base c d d_takes others also_told)) d_takes (first-typed c d d_takes others also_told))
          (first-is c a a_takes lowers told v here) (low-given c a a_takes lowers told w there) same few))))
        where
          shifted-both : (operator : CBin) → operator ≡ Shl → (v w : Value) (e : Base) (o : Outcome Value) {t u : Base} → IsOf (plain e) o → v.type ≡ plain t → w.type ≡ plain u → SameLow c v w → nat_le (of_count c) 16 ≡ true →
              Both (SameLow c) (and_then (both_values operator v) o) (and_then (both_values operator w) o)
          shifted-both operator is v w e (Gives x) {t} {u} x_is v_is w_is same few =
              subst (λ p. Both (SameLow c) (both_values p v x) (both_values p w x)) (sym is) (shifted-low c (small-count c few) v x w t e u v_is x_is w_is same)
          shifted-both operator is v w e Divides x_is v_is w_is same few = tt
          shifted-both operator is v w e Undefined x_is v_is w_is same few = absurd x_is
      by false false f n m carry shift few told also_told = as-was
      by true s false n m carry shift few told also_told = as-was
      by true s true false m carry shift few told also_told = as-was
      by true s true true false carry shift few told also_told = as-was
      by false true false n m carry shift few told also_told = as-was
      by false true true false m carry shift few told also_told = as-was
      by false true true true false carry shift few told also_told = as-was

  -- the chosen one of two arms, as a value of their type
  arm-low : (c : Count) → is_small c ≡ true → (t u : Base) → is_wide t ≡ true → is_wide u ≡ true → (o p : Outcome Value) → Both (SameLow c) o p →
      Both (SameLow c) (and_then (λ v. Gives (converted (plain t) v)) o) (and_then (λ v. Gives (converted (plain u) v)) p)
  arm-low c small t u wide also o p both =
      both-then (SameLow c) (SameLow c) (λ v. Gives (converted (plain t) v)) (λ v. Gives (converted (plain u) v)) o p both
      (λ v w here there same. converted-low c u w (within c u small also) ∙ same ∙ sym (converted-low c t v (within c t small wide)))

  either-both : (P : Value → Value → Type 0) (b : Bool) (o p q r : Outcome Value) → Both P o q → Both P p r → Both P (if b then o else p) (if b then q else r)
  either-both P true o p q r first second = first
  either-both P false o p q r first second = second

  chosen-low : (c : Count) → is_small c ≡ true → (t u : Base) → is_wide t ≡ true → is_wide u ≡ true → (o p q r : Outcome Value) → Both (SameLow c) o q → Both (SameLow c) p r → (test : Value) → test.type.pointer ≡ false →
      Both (SameLow c) (chosen (Some (plain t)) o p test) (chosen (Some (plain u)) q r test)
  chosen-low c small t u wide also o p q r first second test number =
      subst (λ b. Both (SameLow c) (if b then Undefined else and_then (λ v. Gives (converted (plain t) v)) (if is_zero test then p else o)) (if b then Undefined else and_then (λ v. Gives (converted (plain u) v)) (if is_zero test then r else q))) (sym number)
      (arm-low c small t u wide also (if is_zero test then p else o) (if is_zero test then r else q) (either-both (SameLow c) (is_zero test) p o r q second first))

  arms-lowers : (a d e : Expr) → KeepsValue a → KeepsValue d → KeepsValue e → LowersValue d → LowersValue e → LowersValue (Conditional a d e)
  arms-lowers a d e own also third lowers others c b takes is = by (nat_le (of_count c) 16) (is_number names d) (is_number names e) refl refl refl
    where
      inner : Takes body (parts_of a ++ (parts_of d ++ parts_of e))
      inner = takes-later body (Conditional a d e) (parts_of a ++ (parts_of d ++ parts_of e)) takes

      a_takes : TakesFor a
      a_takes = left-takes (parts_of a) (parts_of d ++ parts_of e) inner

      arms_take : Takes body (parts_of d ++ parts_of e)
      arms_take = right-takes (parts_of a) (parts_of d ++ parts_of e) inner

      d_takes : TakesFor d
      d_takes = left-takes (parts_of d) (parts_of e) arms_take

      e_takes : TakesFor e
      e_takes = right-takes (parts_of d) (parts_of e) arms_take

      as-was : Both (SameLow c) (value_of scope (Conditional a d e)) (value_of scope (Conditional (kept names a) (kept names d) (kept names e)))
      as-was = as-it-was c (Conditional a d e) (Conditional (kept names a) (kept names d) (kept names e)) (plain b) takes is (arms-keep a d e own also third (plain b) takes is)

      test-number : (v : Value) → value_of scope a ≡ Gives v → v.type.pointer ≡ false
      test-number v gives =
          let has = three-have (type_of names a) (type_of names d) (type_of names e) (plain b) is in
          ap (λ t. t.pointer) (given-of has.0 (value_of scope a) v (has-value a has.0 a_takes has.3) gives) ∙ tested-number names has.0 has.1 has.2 (plain b) has.6

      both-arms : (few : nat_le (of_count c) 16 ≡ true) (told : is_number names d ≡ true) (also_told : is_number names e ≡ true) →
          Both (SameLow c) (value_of scope (Conditional a d e)) (value_of scope (Conditional (kept names a) (lowered names (of_count c) d) (lowered names (of_count c) e)))
      both-arms few told also_told =
          let has = three-have (type_of names a) (type_of names d) (type_of names e) (plain b) is in
          let t = common_type (first_base c d d_takes lowers told) (first_base c e e_takes others also_told) in
          let u = common_type (low_base c d d_takes lowers told) (low_base c e e_takes others also_told) in
          let d_low = lowered names (of_count c) d in
          let e_low = lowered names (of_count c) e in
          let type_is : both_arms_type (type_of own_names d) (type_of own_names e) ≡ Some (plain t) =
          ap₂ both_arms_type (own-typed d (plain (first_base c d d_takes lowers told)) d_takes (first-typed c d d_takes lowers told)) (own-typed e (plain (first_base c e e_takes others also_told)) e_takes (first-typed c e e_takes others also_told)) in
          let low_is : both_arms_type (type_of own_names d_low) (type_of own_names e_low) ≡ Some (plain u) =
          ap₂ both_arms_type (own-typed d_low (plain (low_base c d d_takes lowers told)) (lowered-takes (of_count c) d d_takes) (low-typed c d d_takes lowers told)) (own-typed e_low (plain (low_base c e e_takes others also_told)) (lowered-takes (of_count c) e e_takes) (low-typed c e e_takes others also_told)) in
          let test_is : value_of scope (kept names a) ≡ value_of scope a = own has.0 a_takes has.3 in
          subst (λ x. Both (SameLow c) (and_then (chosen x (value_of scope d) (value_of scope e)) (value_of scope a)) (value_of scope (Conditional (kept names a) d_low e_low))) (sym type_is)
          (subst (λ x. Both (SameLow c) (and_then (chosen (Some (plain t)) (value_of scope d) (value_of scope e)) (value_of scope a)) (and_then (chosen x (value_of scope d_low) (value_of scope e_low)) (value_of scope (kept names a)))) (sym low_is)
          (subst (λ x. Both (SameLow c) (and_then (chosen (Some (plain t)) (value_of scope d) (value_of scope e)) (value_of scope a)) (and_then (chosen (Some (plain u)) (value_of scope d_low) (value_of scope e_low)) x)) (sym test_is)
          (same-then c (chosen (Some (plain t)) (value_of scope d) (value_of scope e)) (chosen (Some (plain u)) (value_of scope d_low) (value_of scope e_low)) has.0 (value_of scope a) (has-value a has.0 a_takes has.3)
          (λ test gives. chosen-low c (small-count c few) t u (common-wide (first_base c d d_takes lowers told) (first_base c e e_takes others also_told)) (common-wide (low_base c d d_takes lowers told) (low_base c e e_takes others also_told))
          (value_of scope d) (value_of scope e) (value_of scope d_low) (value_of scope e_low) (both-of c d d_takes lowers told) (both-of c e e_takes others also_told) test (test-number test gives)))))

      by : (f n m : Bool) → nat_le (of_count c) 16 ≡ f → is_number names d ≡ n → is_number names e ≡ m →
          Both (SameLow c) (value_of scope (Conditional a d e))
          (value_of scope (Conditional (kept names a) (if f && (n && m) then lowered names (of_count c) d else kept names d) (if f && (n && m) then lowered names (of_count c) e else kept names e)))
      by true true true few told also_told = both-arms few told also_told
      by false n m few told also_told = as-was
      by true false m few told also_told = as-was
      by true true false few told also_told = as-was

  cast-lowers : (type : CType) (a : Expr) → KeepsValue a → LowersValue a → LowersValue (Cast type a)
  cast-lowers type a own lowers c b takes is = by type.pointer (nat_le (of_count c) (bits_of type.base)) (is_number names a) refl refl refl
    where
      inner : TakesFor a
      inner = takes-later body (Cast type a) (parts_of a) takes

      as-was : Both (SameLow c) (value_of scope (Cast type a)) (value_of scope (Cast type (lowered names (room_of type) a)))
      as-was = as-it-was c (Cast type a) (Cast type (lowered names (room_of type) a)) (plain b) takes is (cast-keeps type a own lowers (plain b) takes is)

      without : type.pointer ≡ false → nat_le (of_count c) (bits_of type.base) ≡ true → (o p : Outcome Value) → Both (SameLow c) o p → Both (SameLow c) (and_then (λ v. Gives (converted type v)) o) p
      without free few (Gives v) (Gives w) both =
          both ∙ sym (subst (λ t. low (of_count c) (converted t v) ≡ low (of_count c) v) (sym (plain-is type free)) (converted-low c type.base v (leb-true (of_count c) (bits_of type.base) few)))
      without free few Divides Divides both = tt
      without free few (Gives v) Divides both = absurd both
      without free few (Gives v) Undefined both = absurd both
      without free few Divides (Gives w) both = absurd both
      without free few Divides Undefined both = absurd both
      without free few Undefined p both = absurd both

      by : (p f n : Bool) → type.pointer ≡ p → nat_le (of_count c) (bits_of type.base) ≡ f → is_number names a ≡ n →
          Both (SameLow c) (value_of scope (Cast type a)) (value_of scope (if not p && (f && n) then lowered names (of_count c) a else Cast type (lowered names (room_of type) a)))
      by false true true free few told = without free few (value_of scope a) (value_of scope (lowered names (of_count c) a)) (both-of c a inner lowers told)
      by true f n free few told = as-was
      by false false n free few told = as-was
      by false true false free few told = as-was

  mutual
    pub kept-value : (e : Expr) → KeepsValue e
    kept-value (Number n base) t takes is = refl
    kept-value (Name word) t takes is = refl
    kept-value (Unary operator a) t takes is = unary-keeps operator a (λ u h k. kept-value a u h k) t takes is
    kept-value (Binary operator a b) t takes is = binary-keeps operator a b (λ u h k. kept-value a u h k) (λ u h k. kept-value b u h k) t takes is
    kept-value (Conditional a b c) t takes is = arms-keep a b c (λ u h k. kept-value a u h k) (λ u h k. kept-value b u h k) (λ u h k. kept-value c u h k) t takes is
    kept-value (Cast type a) t takes is = cast-keeps type a (λ u h k. kept-value a u h k) (λ c u h k. lowered-value a c u h k) t takes is

    pub lowered-value : (e : Expr) → LowersValue e
    lowered-value (Number n base) c b takes is = as-it-was c (Number n base) (Number n base) (plain b) takes is refl
    lowered-value (Name word) c b takes is = as-it-was c (Name word) (Name word) (plain b) takes is refl
    lowered-value (Unary operator a) c b takes is = unary-lowers operator a (λ u h k. kept-value a u h k) (λ c u h k. lowered-value a c u h k) c b takes is
    lowered-value (Binary operator a d) c b takes is =
        binary-lowers operator a d (λ u h k. kept-value a u h k) (λ u h k. kept-value d u h k) (λ c u h k. lowered-value a c u h k) (λ c u h k. lowered-value d c u h k) c b takes is
    lowered-value (Conditional a d e) c b takes is =
        arms-lowers a d e (λ u h k. kept-value a u h k) (λ u h k. kept-value d u h k) (λ u h k. kept-value e u h k) (λ c u h k. lowered-value d c u h k) (λ c u h k. lowered-value e c u h k) c b takes is
    lowered-value (Cast type a) c b takes is = cast-lowers type a (λ u h k. kept-value a u h k) (λ c u h k. lowered-value a c u h k) c b takes is
