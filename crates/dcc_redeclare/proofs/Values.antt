-- Expressions have the values that they had, where their variables have other types.
use Rattle.std.proofs.Common.{◌≡◌, ℕ, ◌%◌, ◌^◌, ◌<◌, Bool, true, false, ◌&&◌, ◌||◌, not, List, ◌++◌, map, Option, Some, None, refl, sym, ap, ap₂, ◌∙◌, subst}
use Rattle.std.specs.Prelude.{◌==◌, nat_le, nat_lt, if◌then◌else◌, option_and_then}
use Rattle.std.proofs.lemmas.Bool.{and_parts, eqb-true, ltb-true}
use Rattle.std.proofs.Math.Nat.{mod-eq_of_lt}
use Rattle.dcc_c.specs.declared.syntax.Base.{Base}
use Rattle.dcc_c.specs.declared.syntax.CType.{CType}
use Rattle.dcc_c.specs.declared.syntax.CUn.{CUn}
use Rattle.dcc_c.specs.declared.syntax.CUn.TheVariants.{Minus, Complement, Not, Deref, AddressOf}
use Rattle.dcc_c.specs.declared.syntax.CBin.{CBin}
use Rattle.dcc_c.specs.declared.syntax.CBin.TheVariants.{OrOr, AndAnd, Or, Xor, And, Eq, Ne, Lt, Le, Gt, Ge, Shl, Shr, Add, Sub, Mul, Div, Rem}
use Rattle.dcc_c.specs.Types.{bits_of, convert, extended_bits, plain, same_type, number_of_type}
use Rattle.dcc_c.specs.Tree.{Word, Expr, Number, Name, Unary, Binary, Conditional, Cast, Lines}
use Rattle.dcc_c.specs.Parts.{parts_of}
use Rattle.dcc_c.specs.Typing.{Declared, declared_as, type_of_name, both_arms_type, type_of}
use Rattle.dcc_c.specs.Rules.{is_number}
use Rattle.dcc_c.specs.Value.{Value, value, number, truth, is_zero, converted, Outcome, Gives, Divides, Undefined, and_then, given, Binding, declared_by, variable_in, variable_value, address_value, pointed_value, unary_value, both_values, numbers_value, truth_value, chosen, Scope, value_of}
use Rattle.dcc_progress.proofs.Declarations.{Takes, takes-right, takes-later}
use Rattle.dcc_progress.proofs.Bodies.{any_left}
use Rattle.dcc_progress.proofs.Values.{Holds, has-type}
use Rattle.dcc_c.specs.Placement.{is_address_of}
use Rattle.dcc_redeclare.specs.Redeclared.{is_name, is_small, changed_from, has_type, is_wide, is_equality, is_and, joins_truths, read, cast_read, are_words, is_bare, spares_left, spares_right, exact, room_of}
use Rattle.dcc_redeclare.proofs.Operators.{low-same, back, zero-promoted, equal-words, equal-chars, joined-chars}
use Rattle.dcc_redeclare.proofs.Slots.{Slot, unchanged, changed, Slots, Found, nothing, slot, found}
use Rattle.dcc_redeclare.proofs.Types.{same-self, one-type, left-name, left-told, left-sees, right-name, right-told, right-sees, Tells, exact-type}

-- The types and the values of a name, before and after.
pub data Turns : Option CType → Option CType → Outcome Value → Outcome Value → Type 0 where
  still : {o : Option CType} {x : Outcome Value} → Turns o o x x
  turned : {a c : Base} {n : ℕ} → bits_of c ≡ bits_of a → n < 2 ^ bits_of a → Turns (Some (plain a)) (Some (plain c)) (Gives (number a n)) (Gives (number c n))

name-turns : (memory : List ℕ) {o p : Option Declared} {q r : Option Binding} → Found o p q r →
    Turns (option_and_then type_of_name o) (option_and_then type_of_name p) (and_then (variable_value memory) (given q)) (and_then (variable_value memory) (given r))
name-turns memory nothing = still
name-turns memory (slot (unchanged is)) = still
name-turns memory (slot (changed size small)) = turned size small

address-same : {o p : Option Declared} {q r : Option Binding} → Found o p q r → and_then address_value (given r) ≡ and_then address_value (given q)
address-same nothing = refl
address-same (slot (unchanged is)) = refl
address-same (slot (changed size small)) = refl

-- The value of an operand, before and after: one, or a number of the same bits in a type of the same size.
pub data Side : Outcome Value → Outcome Value → Type 0 where
  kept_side : {x : Outcome Value} → Side x x
  turned_side : {a c : Base} {n : ℕ} → bits_of c ≡ bits_of a → n < 2 ^ bits_of a → Side (Gives (number a n)) (Gives (number c n))

pub truths-same : {x y : Outcome Value} → Side x y → and_then truth_value y ≡ and_then truth_value x
truths-same kept_side = refl
truths-same (turned_side size small) = refl

not-same : {x y : Outcome Value} → Side x y → and_then (unary_value Not) y ≡ and_then (unary_value Not) x
not-same kept_side = refl
not-same (turned_side {a} {c} {n} size small) =
    ap (λ b. Gives (truth b)) (zero-promoted c n (subst (λ k. n < 2 ^ k) (sym size) small) ∙ sym (zero-promoted a n small))

chosen-same : (type : Option CType) (first second : Outcome Value) {x y : Outcome Value} → Side x y → and_then (chosen type first second) y ≡ and_then (chosen type first second) x
chosen-same type first second kept_side = refl
chosen-same (Some type) first second (turned_side size small) = refl
chosen-same None first second (turned_side size small) = refl

-- a converted number of the same bits
converted-same : (type : CType) (a c : Base) (n : ℕ) → bits_of c ≡ bits_of a → n < 2 ^ bits_of a → nat_le (room_of type) (bits_of a) ≡ true → converted type (number c n) ≡ converted type (number a n)
converted-same type a c n size small fits = ap (value type) (low-same (number_of_type type) a c n size small fits)

-- both operands' values go into an operator that takes both
abbrev eager : CBin → Outcome Value → Outcome Value → Outcome Value
eager operator x y = and_then (λ v. and_then (both_values operator v) y) x

module _ (operator : CBin) where
  -- what is equal for each value that the other operand has
  left-turned : (a c : Base) (n : ℕ) (y : Outcome Value) → ((v : Value) → y ≡ Gives v → both_values operator (number c n) v ≡ both_values operator (number a n) v) →
      eager operator (Gives (number c n)) y ≡ eager operator (Gives (number a n)) y
  left-turned a c n (Gives v) more = more v refl
  left-turned a c n Divides more = refl
  left-turned a c n Undefined more = refl

-- Words.

abbrev IsWord : Outcome Value → Type 0
IsWord x = Holds (λ v. (v.type.pointer ≡ false) × (bits_of v.type.base ≡ 16)) x

is-plain : (t : CType) → t.pointer ≡ false → t ≡ plain t.base
is-plain t is = ap (λ (p : Bool). record { base = t.base; pointer = p }) is

plain-value : (v : Value) → v.type.pointer ≡ false → v ≡ number v.type.base v.bits
plain-value v is = ap (λ (t : CType). value t v.bits) (is-plain v.type is)

equal-left : (operator : CBin) → is_equality operator ≡ true → (a c : Base) (n : ℕ) → bits_of c ≡ bits_of a → bits_of a ≡ 16 → (y : Outcome Value) → IsWord y → eager operator (Gives (number c n)) y ≡ eager operator (Gives (number a n)) y
equal-left operator is a c n size word (Gives v) also =
    subst (λ (w : Value). both_values operator (number c n) w ≡ both_values operator (number a n) w) (sym (plain-value v also.0)) (by operator is)
  where
    by : (o : CBin) → is_equality o ≡ true → both_values o (number c n) (number v.type.base v.bits) ≡ both_values o (number a n) (number v.type.base v.bits)
    by Eq is = (equal-words a v.type.base c v.type.base n v.bits word also.1 (size ∙ word) also.1).0
    by Ne is = (equal-words a v.type.base c v.type.base n v.bits word also.1 (size ∙ word) also.1).1
    by OrOr is = absurd cc
    by AndAnd is = absurd cc
    by Or is = absurd cc
    by Xor is = absurd cc
    by And is = absurd cc
    by Lt is = absurd cc
    by Le is = absurd cc
    by Gt is = absurd cc
    by Ge is = absurd cc
    by Shl is = absurd cc
    by Shr is = absurd cc
    by Add is = absurd cc
    by Sub is = absurd cc
    by Mul is = absurd cc
    by Div is = absurd cc
    by Rem is = absurd cc
equal-left operator is a c n size word Divides also = refl
equal-left operator is a c n size word Undefined also = absurd also

equal-right : (operator : CBin) → is_equality operator ≡ true → (a c : Base) (n : ℕ) → bits_of c ≡ bits_of a → bits_of a ≡ 16 → (x : Outcome Value) → IsWord x → eager operator x (Gives (number c n)) ≡ eager operator x (Gives (number a n))
equal-right operator is a c n size word (Gives v) also =
    subst (λ (w : Value). both_values operator w (number c n) ≡ both_values operator w (number a n)) (sym (plain-value v also.0)) (by operator is)
  where
    by : (o : CBin) → is_equality o ≡ true → both_values o (number v.type.base v.bits) (number c n) ≡ both_values o (number v.type.base v.bits) (number a n)
    by Eq is = (equal-words v.type.base a v.type.base c v.bits n also.1 word also.1 (size ∙ word)).0
    by Ne is = (equal-words v.type.base a v.type.base c v.bits n also.1 word also.1 (size ∙ word)).1
    by OrOr is = absurd cc
    by AndAnd is = absurd cc
    by Or is = absurd cc
    by Xor is = absurd cc
    by And is = absurd cc
    by Lt is = absurd cc
    by Le is = absurd cc
    by Gt is = absurd cc
    by Ge is = absurd cc
    by Shl is = absurd cc
    by Shr is = absurd cc
    by Add is = absurd cc
    by Sub is = absurd cc
    by Mul is = absurd cc
    by Div is = absurd cc
    by Rem is = absurd cc
equal-right operator is a c n size word Divides also = refl
equal-right operator is a c n size word Undefined also = absurd also

-- both operands of an equality of words
words-same : (operator : CBin) → is_equality operator ≡ true → {x y u v : Outcome Value} → Side x y → Side u v → IsWord x → IsWord u → eager operator y v ≡ eager operator x u
words-same operator is kept_side kept_side word also = refl
words-same operator is (kept_side {x}) (turned_side {a} {c} {n} size small) word also = equal-right operator is a c n size also.1 x word
words-same operator is (turned_side {a} {c} {n} size small) (kept_side {x = u}) word also = equal-left operator is a c n size word.1 u also
words-same operator is (turned_side {a} {c} {n} size small) (turned_side {a = b} {c = d} {n = m} same_size low) word also =
    equal-left operator is a c n size word.1 (Gives (number d m)) (refl, same_size ∙ also.1)
    ∙ equal-right operator is b d m same_size also.1 (Gives (number a n)) word

-- Chars beside a number with just low bits.

small-same : (operator : CBin) → (is_equality operator || is_and operator) ≡ true → {x y : Outcome Value} → Side x y → ((a : Base) (n : ℕ) → x ≡ Gives (number a n) → bits_of a ≡ 8) → (n : ℕ) (b : Base) → n < 128 →
    eager operator y (Gives (number b (n % 2 ^ bits_of b))) ≡ eager operator x (Gives (number b (n % 2 ^ bits_of b)))
small-same operator is kept_side char n b low = refl
small-same operator is (turned_side {a} {c} {n = m} size small) char n b low = by operator is
  where
    eight : bits_of a ≡ 8
    eight = char a m refl

    byte : m < 2 ^ 8
    byte = subst (λ k. m < 2 ^ k) eight small

    by : (o : CBin) → (is_equality o || is_and o) ≡ true → both_values o (number c m) (number b (n % 2 ^ bits_of b)) ≡ both_values o (number a m) (number b (n % 2 ^ bits_of b))
    by Eq is = (equal-chars a c b m n eight (size ∙ eight) byte low).0
    by Ne is = (equal-chars a c b m n eight (size ∙ eight) byte low).1
    by And is = joined-chars a c b m n eight (size ∙ eight) byte low
    by OrOr is = absurd cc
    by AndAnd is = absurd cc
    by Or is = absurd cc
    by Xor is = absurd cc
    by Lt is = absurd cc
    by Le is = absurd cc
    by Gt is = absurd cc
    by Ge is = absurd cc
    by Shl is = absurd cc
    by Shr is = absurd cc
    by Add is = absurd cc
    by Sub is = absurd cc
    by Mul is = absurd cc
    by Div is = absurd cc
    by Rem is = absurd cc

-- The values in two scopes in which each name is what it was.
module _ (old new : List Declared) (bs cs : List Binding) (memory : List ℕ) (slots : Slots old new bs cs) (body : Lines)
    (typed : (e : Expr) (t : CType) → Takes body (parts_of e) → type_of old e ≡ Some t → Holds (λ v. v.type ≡ t) (value_of (record { variables = bs; memory = memory }) e))
    (tells : (word : Word) → Tells old new (map declared_by bs) (map declared_by cs) word) where
  abbrev here : Scope
  here = record { variables = bs; memory = memory }

  abbrev there : Scope
  there = record { variables = cs; memory = memory }

  abbrev Keeps : Expr → Type 0
  Keeps e = value_of there (exact old new e) ≡ value_of here e

  turns-of : (word : Word) → Turns (type_of old (Name word)) (type_of new (Name word)) (value_of here (Name word)) (value_of there (Name word))
  turns-of word = name-turns memory (found old new bs cs word slots)

  -- a name that is read
  read-value : (word : Word) → Keeps (Name word)
  read-value word = by (turns-of word) refl
    where
      still-one : (o : Option CType) (x : Outcome Value) → value_of there (Name word) ≡ x → value_of there (elim (changed_from o o) [ Some type ↦ Cast type (Name word) | None ↦ Name word ]) ≡ x
      still-one None x is = is
      still-one (Some t) x is = ap (λ b. value_of there (elim (if b then None else Some t) [ Some type ↦ Cast type (Name word) | None ↦ Name word ])) (same-self t) ∙ is

      either : (a c : Base) (n : ℕ) → bits_of c ≡ bits_of a → n < 2 ^ bits_of a → value_of there (Name word) ≡ Gives (number c n) → (b : Bool) → same_type (plain a) (plain c) ≡ b →
          value_of there (elim (if b then None else Some (plain a)) [ Some type ↦ Cast type (Name word) | None ↦ Name word ]) ≡ Gives (number a n)
      either a c n size small is true same_types = is ∙ ap (λ (t : CType). Gives (value t n)) (sym (one-type (plain a) (plain c) same_types))
      either a c n size small is false same_types =
          ap (and_then (λ v. Gives (converted (plain a) v))) is ∙ ap (λ k. Gives (number a k)) (back a c n size small)

      by : {o p : Option CType} {x y : Outcome Value} → Turns o p x y → value_of there (Name word) ≡ y → value_of there (elim (changed_from o p) [ Some type ↦ Cast type (Name word) | None ↦ Name word ]) ≡ x
      by (still {o} {x}) is = still-one o x is
      by (turned {a} {c} {n} size small) is = either a c n size small is (same_type (plain a) (plain c)) refl

  -- a cast of a name
  cast-value : (type : CType) (word : Word) → Keeps (Cast type (Name word))
  cast-value type word = by (turns-of word) refl
    where
      casted : Option CType → Option CType → Expr
      casted o p = elim (changed_from o p) [
        | Some own ↦ if nat_le (room_of type) (room_of own) then (if has_type p type then Name word else Cast type (Name word)) else Cast type (Cast own (Name word))
        | None ↦ Cast type (Name word)
      ]

      still-one : (o : Option CType) (x : Outcome Value) → value_of there (Name word) ≡ x → value_of there (casted o o) ≡ and_then (λ v. Gives (converted type v)) x
      still-one None x is = ap (and_then (λ v. Gives (converted type v))) is
      still-one (Some t) x is =
          ap (λ b. value_of there (elim (if b then None else Some t) [ Some own ↦ if nat_le (room_of type) (room_of own) then (if same_type type t then Name word else Cast type (Name word)) else Cast type (Cast own (Name word)) | None ↦ Cast type (Name word) ])) (same-self t)
          ∙ ap (and_then (λ v. Gives (converted type v))) is

      inner : (a c : Base) (n : ℕ) → bits_of c ≡ bits_of a → n < 2 ^ bits_of a → value_of there (Name word) ≡ Gives (number c n) → (k b : Bool) → nat_le (room_of type) (bits_of a) ≡ k → same_type type (plain c) ≡ b →
          value_of there (if k then (if b then Name word else Cast type (Name word)) else Cast type (Cast (plain a) (Name word))) ≡ Gives (converted type (number a n))
      inner a c n size small is true true fits same_types =
          is ∙ ap Gives (sym (sym (converted-same type a c n size small fits) ∙ subst (λ (u : CType). converted u (number c n) ≡ number c n) (sym (one-type type (plain c) same_types)) (ap (λ k. number c k) (back c c n refl (subst (λ k. n < 2 ^ k) (sym size) small)))))
      inner a c n size small is true false fits same_types = ap (and_then (λ v. Gives (converted type v))) is ∙ ap Gives (converted-same type a c n size small fits)
      inner a c n size small is false b fits same_types =
          ap (λ o. and_then (λ v. Gives (converted type v)) (and_then (λ v. Gives (converted (plain a) v)) o)) is
          ∙ ap (λ k. Gives (converted type (number a k))) (back a c n size small)

      either : (a c : Base) (n : ℕ) → bits_of c ≡ bits_of a → n < 2 ^ bits_of a → value_of there (Name word) ≡ Gives (number c n) → (b : Bool) → same_type (plain a) (plain c) ≡ b →
          value_of there (elim (if b then None else Some (plain a)) [ Some own ↦ if nat_le (room_of type) (room_of own) then (if same_type type (plain c) then Name word else Cast type (Name word)) else Cast type (Cast own (Name word)) | None ↦ Cast type (Name word) ]) ≡ Gives (converted type (number a n))
      either a c n size small is true same_types =
          ap (and_then (λ v. Gives (converted type v))) is ∙ ap (λ (t : CType). Gives (converted type (value t n))) (sym (one-type (plain a) (plain c) same_types))
      either a c n size small is false same_types = inner a c n size small is (nat_le (room_of type) (bits_of a)) (same_type type (plain c)) refl refl

      by : {o p : Option CType} {x y : Outcome Value} → Turns o p x y → value_of there (Name word) ≡ y → value_of there (casted o p) ≡ and_then (λ v. Gives (converted type v)) x
      by (still {o} {x}) is = still-one o x is
      by (turned {a} {c} {n} size small) is = either a c n size small is (same_type (plain a) (plain c)) refl

  name-side : (word : Word) → Side (value_of here (Name word)) (value_of there (Name word))
  name-side word = by (turns-of word)
    where
      by : {o p : Option CType} {x y : Outcome Value} → Turns o p x y → Side x y
      by still = kept_side
      by (turned size small) = turned_side size small

  -- what is left bare is a name
  bare-side : (b : Bool) (a : Expr) → (b ≡ true → is_name a ≡ true) → Keeps a → Side (value_of here a) (value_of there (if b then a else exact old new a))
  bare-side false a name keeps = subst (Side (value_of here a)) (sym keeps) kept_side
  bare-side true (Name word) name keeps = name-side word
  bare-side true (Number n base) name keeps = let no : false ≡ true = name refl in absurd cc
  bare-side true (Unary operator a) name keeps = let no : false ≡ true = name refl in absurd cc
  bare-side true (Binary operator a b) name keeps = let no : false ≡ true = name refl in absurd cc
  bare-side true (Conditional a b c) name keeps = let no : false ≡ true = name refl in absurd cc
  bare-side true (Cast type a) name keeps = let no : false ≡ true = name refl in absurd cc

  bare-name : (e : Expr) → is_bare old new e ≡ true → is_name e ≡ true
  bare-name e is = (and_parts (is_name e) (is_number new e) is).0

  pub tested-value : (e : Expr) → Keeps e → Side (value_of here e) (value_of there (if is_bare old new e then e else exact old new e))
  tested-value e keeps = bare-side (is_bare old new e) e (bare-name e) keeps

  -- Operators.

  wide-type : (bits : ℕ) (o : Option CType) → is_wide bits o ≡ true → (t : CType) × (o ≡ Some t) × (t.pointer ≡ false) × (bits_of t.base ≡ bits)
  wide-type bits None is = absurd cc
  wide-type bits (Some t) is =
      let parts = and_parts (not t.pointer) (bits_of t.base == bits) is in (t, refl, by t.pointer parts.0, eqb-true (bits_of t.base) bits parts.1)
    where
      by : (p : Bool) → not p ≡ true → p ≡ false
      by false is = refl
      by true is = absurd cc

  word-here : (e : Expr) → Takes body (parts_of e) → is_wide 16 (type_of old e) ≡ true → IsWord (value_of here e)
  word-here e takes is =
      let has = wide-type 16 (type_of old e) is in
      by has.0 has.2 has.3 (value_of here e) (typed e has.0 takes has.1)
    where
      by : (t : CType) → t.pointer ≡ false → bits_of t.base ≡ 16 → (x : Outcome Value) → Holds (λ v. v.type ≡ t) x → IsWord x
      by t free word (Gives v) holds = (ap (λ (u : CType). u.pointer) holds ∙ free, ap (λ (u : CType). bits_of u.base) holds ∙ word)
      by t free word Divides holds = tt
      by t free word Undefined holds = holds

  char-here : (a : Expr) → Takes body (parts_of a) → is_wide 8 (type_of old a) ≡ true → (b : Base) (n : ℕ) → value_of here a ≡ Gives (number b n) → bits_of b ≡ 8
  char-here a takes is b n gives =
      let has = wide-type 8 (type_of old a) is in
      by has.0 has.3 (subst (Holds (λ v. v.type ≡ has.0)) gives (typed a has.0 takes has.1))
    where
      by : (t : CType) → bits_of t.base ≡ 8 → plain b ≡ t → bits_of b ≡ 8
      by t eight same = ap (λ (u : CType). bits_of u.base) same ∙ eight

  -- the value of an operator by those of its operands
  abbrev joined : CBin → Outcome Value → Outcome Value → Outcome Value
  joined OrOr x y = and_then (λ v. if is_zero v then and_then truth_value y else Gives v) (and_then truth_value x)
  joined AndAnd x y = and_then (λ v. if is_zero v then Gives v else and_then truth_value y) (and_then truth_value x)
  joined operator x y = eager operator x y

  joined-is : (scope : Scope) (operator : CBin) (a b : Expr) → value_of scope (Binary operator a b) ≡ joined operator (value_of scope a) (value_of scope b)
  joined-is scope OrOr a b = refl
  joined-is scope AndAnd a b = refl
  joined-is scope Or a b = refl
  joined-is scope Xor a b = refl
  joined-is scope And a b = refl
  joined-is scope Eq a b = refl
  joined-is scope Ne a b = refl
  joined-is scope Lt a b = refl
  joined-is scope Le a b = refl
  joined-is scope Gt a b = refl
  joined-is scope Ge a b = refl
  joined-is scope Shl a b = refl
  joined-is scope Shr a b = refl
  joined-is scope Add a b = refl
  joined-is scope Sub a b = refl
  joined-is scope Mul a b = refl
  joined-is scope Div a b = refl
  joined-is scope Rem a b = refl

  -- operands whose truths are joined
  truths-joined : (operator : CBin) → joins_truths operator ≡ true → {x y u v : Outcome Value} → Side x y → Side u v → joined operator y v ≡ joined operator x u
  truths-joined OrOr is one two = ap₂ (λ p q. and_then (λ w. if is_zero w then q else Gives w) p) (truths-same one) (truths-same two)
  truths-joined AndAnd is one two = ap₂ (λ p q. and_then (λ w. if is_zero w then Gives w else q) p) (truths-same one) (truths-same two)
  truths-joined Or is one two = absurd cc
  truths-joined Xor is one two = absurd cc
  truths-joined And is one two = absurd cc
  truths-joined Eq is one two = absurd cc
  truths-joined Ne is one two = absurd cc
  truths-joined Lt is one two = absurd cc
  truths-joined Le is one two = absurd cc
  truths-joined Gt is one two = absurd cc
  truths-joined Ge is one two = absurd cc
  truths-joined Shl is one two = absurd cc
  truths-joined Shr is one two = absurd cc
  truths-joined Add is one two = absurd cc
  truths-joined Sub is one two = absurd cc
  truths-joined Mul is one two = absurd cc
  truths-joined Div is one two = absurd cc
  truths-joined Rem is one two = absurd cc

  eager-is : (operator : CBin) → (is_equality operator || is_and operator) ≡ true → (x y : Outcome Value) → joined operator x y ≡ eager operator x y
  eager-is And is x y = refl
  eager-is Eq is x y = refl
  eager-is Ne is x y = refl
  eager-is OrOr is x y = absurd cc
  eager-is AndAnd is x y = absurd cc
  eager-is Or is x y = refl
  eager-is Xor is x y = refl
  eager-is Lt is x y = refl
  eager-is Le is x y = refl
  eager-is Gt is x y = refl
  eager-is Ge is x y = refl
  eager-is Shl is x y = refl
  eager-is Shr is x y = refl
  eager-is Add is x y = refl
  eager-is Sub is x y = refl
  eager-is Mul is x y = refl
  eager-is Div is x y = refl
  eager-is Rem is x y = refl

  small-number : (b : Expr) → is_small b ≡ true → (n : ℕ) × (base : Base) × (b ≡ Number n base) × (n < 128)
  small-number (Number n base) is = (n, base, refl, ltb-true n 128 is)
  small-number (Name word) is = absurd cc
  small-number (Unary operator a) is = absurd cc
  small-number (Binary operator a c) is = absurd cc
  small-number (Conditional a c d) is = absurd cc
  small-number (Cast type a) is = absurd cc

  or-left : (p q : Bool) → p ≡ true → (p || q) ≡ true
  or-left p q is = ap (λ b. b || q) is

  binary-value : (operator : CBin) (a b : Expr) → Takes body (parts_of a) → Takes body (parts_of b) → Keeps a → Keeps b → Keeps (Binary operator a b)
  binary-value operator a b a_takes b_takes first second =
      joined-is there operator (if spares_left old new operator a b then a else exact old new a) (if spares_right old new operator a b then b else exact old new b)
      ∙ by (spares_left old new operator a b) (spares_right old new operator a b) (joins_truths operator) refl refl refl
      ∙ sym (joined-is here operator a b)
    where
      Goal : Bool → Bool → Type 0
      Goal l r =
          joined operator (value_of there (if l then a else exact old new a)) (value_of there (if r then b else exact old new b)) ≡ joined operator (value_of here a) (value_of here b)

      left : (l : Bool) → spares_left old new operator a b ≡ l → Side (value_of here a) (value_of there (if l then a else exact old new a))
      left l is = bare-side l a (λ yes. left-name old new operator a b (is ∙ yes)) first

      right : (r : Bool) → spares_right old new operator a b ≡ r → Side (value_of here b) (value_of there (if r then b else exact old new b))
      right r is = bare-side r b (λ yes. right-name old new operator a b (is ∙ yes)) second

      words : (l r : Bool) → spares_left old new operator a b ≡ l → spares_right old new operator a b ≡ r → (is_equality operator && are_words old new a b) ≡ true → Goal l r
      words l r one two is =
          let parts = and_parts (is_equality operator) (are_words old new a b) is in
          let both = and_parts (is_wide 16 (type_of old a)) (is_wide 16 (type_of old b)) parts.1 in
          let some = or-left (is_equality operator) (is_and operator) parts.0 in
          eager-is operator some (value_of there (if l then a else exact old new a)) (value_of there (if r then b else exact old new b))
          ∙ words-same operator parts.0 (left l one) (right r two) (word-here a a_takes both.0) (word-here b b_takes both.1)
          ∙ sym (eager-is operator some (value_of here a) (value_of here b))

      chars : spares_left old new operator a b ≡ true → ((is_equality operator || is_and operator) && (is_wide 8 (type_of old a) && is_small b)) ≡ true → Goal true false
      chars one is =
          let parts = and_parts (is_equality operator || is_and operator) (is_wide 8 (type_of old a) && is_small b) is in
          let both = and_parts (is_wide 8 (type_of old a)) (is_small b) parts.1 in
          let number_is = small-number b both.1 in
          let n = number_is.0 in
          let base = number_is.1 in
          let same_b : value_of here b ≡ Gives (number base (n % 2 ^ bits_of base)) = ap (value_of here) number_is.2 in
          ap (joined operator (value_of there a)) (second ∙ same_b)
          ∙ eager-is operator parts.0 (value_of there a) (Gives (number base (n % 2 ^ bits_of base)))
          ∙ small-same operator parts.0 (left true one) (char-here a a_takes both.0) n base number_is.3
          ∙ sym (eager-is operator parts.0 (value_of here a) (Gives (number base (n % 2 ^ bits_of base))))
          ∙ ap (joined operator (value_of here a)) (sym same_b)

      left-only : (w : Bool) → (is_equality operator && are_words old new a b) ≡ w → spares_left old new operator a b ≡ true → spares_right old new operator a b ≡ false → joins_truths operator ≡ false → Goal true false
      left-only true words_are one two unlike = words true false one two words_are
      left-only false words_are one two unlike =
          chars one (ap₂ (λ p q. (p && is_number new a) || (q || ((is_equality operator || is_and operator) && (is_wide 8 (type_of old a) && is_small b)))) (sym unlike) (sym words_are) ∙ left-told old new operator a b one)

      by : (l r t : Bool) → spares_left old new operator a b ≡ l → spares_right old new operator a b ≡ r → joins_truths operator ≡ t → Goal l r
      by l r true one two is = truths-joined operator is (left l one) (right r two)
      by l true false one two unlike =
          words l true one two (ap (λ p. (p && is_number new b) || (is_equality operator && are_words old new a b)) (sym unlike) ∙ right-told old new operator a b two)
      by false false false one two unlike = ap₂ (joined operator) first second
      by true false false one two unlike = left-only (is_equality operator && are_words old new a b) refl one two unlike

  address-value-same : (a : Expr) → value_of there (Unary AddressOf a) ≡ value_of here (Unary AddressOf a)
  address-value-same (Name word) = address-same (found old new bs cs word slots)
  address-value-same (Number n base) = refl
  address-value-same (Unary operator a) = refl
  address-value-same (Binary operator a b) = refl
  address-value-same (Conditional a b c) = refl
  address-value-same (Cast type a) = refl

  left-takes : (xs ys : List Expr) → Takes body (xs ++ ys) → Takes body xs
  left-takes xs ys takes word any = takes word (any_left (is_address_of word) xs ys any)

  -- the expression has its value
  pub exact-value : (e : Expr) → Takes body (parts_of e) → Keeps e
  exact-value (Number n base) takes = refl
  exact-value (Name word) takes = read-value word
  exact-value (Unary AddressOf a) takes = address-value-same a
  exact-value (Unary Not a) takes = not-same (tested-value a (exact-value a (takes-later body (Unary Not a) (parts_of a) takes)))
  exact-value (Unary Minus a) takes = ap (and_then (unary_value Minus)) (exact-value a (takes-later body (Unary Minus a) (parts_of a) takes))
  exact-value (Unary Complement a) takes = ap (and_then (unary_value Complement)) (exact-value a (takes-later body (Unary Complement a) (parts_of a) takes))
  exact-value (Unary Deref a) takes = ap (and_then (pointed_value memory)) (exact-value a (takes-later body (Unary Deref a) (parts_of a) takes))
  exact-value (Binary operator a b) takes =
      let inner = takes-later body (Binary operator a b) (parts_of a ++ parts_of b) takes in
      let a_takes = left-takes (parts_of a) (parts_of b) inner in
      let b_takes = takes-right body (parts_of a) (parts_of b) inner in
      binary-value operator a b a_takes b_takes (exact-value a a_takes) (exact-value b b_takes)
  exact-value (Conditional a b c) takes =
      let inner = takes-later body (Conditional a b c) (parts_of a ++ (parts_of b ++ parts_of c)) takes in
      let arms = takes-right body (parts_of a) (parts_of b ++ parts_of c) inner in
      let types = exact-type old new (map declared_by bs) (map declared_by cs) tells in
      ap (λ (o : Option CType). and_then (chosen o (value_of there (exact old new b)) (value_of there (exact old new c))) (value_of there (if is_bare old new a then a else exact old new a))) (ap₂ both_arms_type (types b) (types c))
      ∙ ap₂ (λ x y. and_then (chosen (both_arms_type (type_of (map declared_by bs) b) (type_of (map declared_by bs) c)) x y) (value_of there (if is_bare old new a then a else exact old new a)))
      (exact-value b (left-takes (parts_of b) (parts_of c) arms)) (exact-value c (takes-right body (parts_of b) (parts_of c) arms))
      ∙ chosen-same (both_arms_type (type_of (map declared_by bs) b) (type_of (map declared_by bs) c)) (value_of here b) (value_of here c)
      (tested-value a (exact-value a (left-takes (parts_of a) (parts_of b ++ parts_of c) inner)))
  exact-value (Cast type (Name word)) takes = cast-value type word
  exact-value (Cast type (Number n base)) takes = refl
  exact-value (Cast type (Unary operator a)) takes =
      ap (and_then (λ v. Gives (converted type v))) (exact-value (Unary operator a) (takes-later body (Cast type (Unary operator a)) (parts_of (Unary operator a)) takes))
  exact-value (Cast type (Binary operator a b)) takes =
      ap (and_then (λ v. Gives (converted type v))) (exact-value (Binary operator a b) (takes-later body (Cast type (Binary operator a b)) (parts_of (Binary operator a b)) takes))
  exact-value (Cast type (Conditional a b c)) takes =
      ap (and_then (λ v. Gives (converted type v))) (exact-value (Conditional a b c) (takes-later body (Cast type (Conditional a b c)) (parts_of (Conditional a b c)) takes))
  exact-value (Cast type (Cast other a)) takes =
      ap (and_then (λ v. Gives (converted type v))) (exact-value (Cast other a) (takes-later body (Cast type (Cast other a)) (parts_of (Cast other a)) takes))
