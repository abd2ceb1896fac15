-- Expressions have the types that they had, where their variables have other ones.
use Rattle.std.proofs.Common.{◌≡◌, ℕ, Bool, true, false, ◌&&◌, ◌||◌, ◌==◌, not, List, map, Option, Some, None, refl, sym, ap, ap₂, ◌∙◌, subst}
use Rattle.std.specs.Prelude.{nat_le, if◌then◌else◌, option_map, option_and_then}
use Rattle.std.proofs.lemmas.Bool.{and_parts, eqb-true}
use Rattle.dcc_c.specs.declared.syntax.Base.{Base}
use Rattle.dcc_c.specs.declared.syntax.Base.TheVariants.{Schar, Uchar, Int, Uint, Long, Ulong}
use Rattle.dcc_c.specs.declared.syntax.CType.{CType}
use Rattle.dcc_c.specs.declared.syntax.CUn.{CUn}
use Rattle.dcc_c.specs.declared.syntax.CUn.TheVariants.{Minus, Complement, Not, Deref, AddressOf}
use Rattle.dcc_c.specs.declared.syntax.CBin.{CBin}
use Rattle.dcc_c.specs.declared.syntax.CBin.TheVariants.{OrOr, AndAnd, Or, Xor, And, Eq, Ne, Lt, Le, Gt, Ge, Shl, Shr, Add, Sub, Mul, Div, Rem}
use Rattle.dcc_c.specs.Types.{bits_of, plain, common_type, same_type}
use Rattle.dcc_c.specs.Tree.{Word, Expr, Number, Name, Unary, Binary, Conditional, Cast}
use Rattle.dcc_c.specs.Typing.{Declared, declared_as, type_of_name, type_of_address, unary_type, both_types, both_arms_type, tested_type, type_of, type_of_variable}
use Rattle.dcc_c.specs.Rules.{is_number}
use Rattle.dcc_c.specs.Value.{Binding, declared_by, variable_in}
use Rattle.dcc_redeclare.specs.Redeclared.{is_name, is_small, changed_from, has_type, is_wide, is_equality, is_and, joins_truths, was, read, bare, cast_read, are_words, is_bare, spares_left, spares_right, spares_one, exact, room_of}
use Rattle.dcc_redeclare.proofs.Operators.{common-chars}
use Rattle.dcc_redeclare.proofs.Slots.{Becomes, stays, turns, Told, told_none, told_one, Slot, unchanged, changed, Slots, Found, nothing, slot, IsDeclared}

pub same-base : (a : Base) → same_type (plain a) (plain a) ≡ true
same-base Schar = refl
same-base Uchar = refl
same-base Int = refl
same-base Uint = refl
same-base Long = refl
same-base Ulong = refl

pub same-self : (t : CType) → same_type t t ≡ true
same-self t = by t.base t.pointer
  where
    by : (b : Base) (p : Bool) → same_type (record { base = b; pointer = p }) (record { base = b; pointer = p }) ≡ true
    by Schar true = refl
    by Uchar true = refl
    by Int true = refl
    by Uint true = refl
    by Long true = refl
    by Ulong true = refl
    by Schar false = refl
    by Uchar false = refl
    by Int false = refl
    by Uint false = refl
    by Long false = refl
    by Ulong false = refl

-- types that are one
pub one-type : (t u : CType) → same_type t u ≡ true → t ≡ u
one-type t u is = by t.base u.base t.pointer u.pointer is
  where
    of : Base → Bool → CType
    of b p = record { base = b; pointer = p }

    by : (a b : Base) (p q : Bool) → same_type (of a p) (of b q) ≡ true → of a p ≡ of b q
    by Schar Schar true true is = refl
    by Schar Schar false false is = refl
    by Uchar Uchar true true is = refl
    by Uchar Uchar false false is = refl
    by Int Int true true is = refl
    by Int Int false false is = refl
    by Uint Uint true true is = refl
    by Uint Uint false false is = refl
    by Long Long true true is = refl
    by Long Long false false is = refl
    by Ulong Ulong true true is = refl
    by Ulong Ulong false false is = refl
    by Schar Schar true false is = absurd cc
    by Schar Schar false true is = absurd cc
    by Uchar Uchar true false is = absurd cc
    by Uchar Uchar false true is = absurd cc
    by Int Int true false is = absurd cc
    by Int Int false true is = absurd cc
    by Uint Uint true false is = absurd cc
    by Uint Uint false true is = absurd cc
    by Long Long true false is = absurd cc
    by Long Long false true is = absurd cc
    by Ulong Ulong true false is = absurd cc
    by Ulong Ulong false true is = absurd cc
    by Schar Uchar p q is = absurd cc
    by Schar Int p q is = absurd cc
    by Schar Uint p q is = absurd cc
    by Schar Long p q is = absurd cc
    by Schar Ulong p q is = absurd cc
    by Uchar Schar p q is = absurd cc
    by Uchar Int p q is = absurd cc
    by Uchar Uint p q is = absurd cc
    by Uchar Long p q is = absurd cc
    by Uchar Ulong p q is = absurd cc
    by Int Schar p q is = absurd cc
    by Int Uchar p q is = absurd cc
    by Int Uint p q is = absurd cc
    by Int Long p q is = absurd cc
    by Int Ulong p q is = absurd cc
    by Uint Schar p q is = absurd cc
    by Uint Uchar p q is = absurd cc
    by Uint Int p q is = absurd cc
    by Uint Long p q is = absurd cc
    by Uint Ulong p q is = absurd cc
    by Long Schar p q is = absurd cc
    by Long Uchar p q is = absurd cc
    by Long Int p q is = absurd cc
    by Long Uint p q is = absurd cc
    by Long Ulong p q is = absurd cc
    by Ulong Schar p q is = absurd cc
    by Ulong Uchar p q is = absurd cc
    by Ulong Int p q is = absurd cc
    by Ulong Uint p q is = absurd cc
    by Ulong Long p q is = absurd cc

-- What is decided of the operands of an operator.
module _ (old new : List Declared) where
  pub left-name : (operator : CBin) (a b : Expr) → spares_left old new operator a b ≡ true → is_name a ≡ true
  left-name operator a b is =
      (and_parts (is_name a) ((joins_truths operator && is_number new a) || ((is_equality operator && are_words old new a b) || ((is_equality operator || is_and operator) && (is_wide 8 (type_of old a) && is_small b)))) is).0

  pub left-told : (operator : CBin) (a b : Expr) → spares_left old new operator a b ≡ true →
      ((joins_truths operator && is_number new a) || ((is_equality operator && are_words old new a b) || ((is_equality operator || is_and operator) && (is_wide 8 (type_of old a) && is_small b)))) ≡ true
  left-told operator a b is =
      (and_parts (is_name a) ((joins_truths operator && is_number new a) || ((is_equality operator && are_words old new a b) || ((is_equality operator || is_and operator) && (is_wide 8 (type_of old a) && is_small b)))) is).1

  pub right-name : (operator : CBin) (a b : Expr) → spares_right old new operator a b ≡ true → is_name b ≡ true
  right-name operator a b is = (and_parts (is_name b) ((joins_truths operator && is_number new b) || (is_equality operator && are_words old new a b)) is).0

  pub right-told : (operator : CBin) (a b : Expr) → spares_right old new operator a b ≡ true → ((joins_truths operator && is_number new b) || (is_equality operator && are_words old new a b)) ≡ true
  right-told operator a b is = (and_parts (is_name b) ((joins_truths operator && is_number new b) || (is_equality operator && are_words old new a b)) is).1

  pub right-sees : (operator : CBin) (a b : Expr) → spares_right old new operator a b ≡ true → (is_equality operator || joins_truths operator) ≡ true
  right-sees operator a b is = by operator (right-told operator a b is)
    where
      by : (o : CBin) → ((joins_truths o && is_number new b) || (is_equality o && are_words old new a b)) ≡ true → (is_equality o || joins_truths o) ≡ true
      by OrOr is = refl
      by AndAnd is = refl
      by Eq is = refl
      by Ne is = refl
      by Or is = absurd cc
      by Xor is = absurd cc
      by And is = absurd cc
      by Lt is = absurd cc
      by Le is = absurd cc
      by Gt is = absurd cc
      by Ge is = absurd cc
      by Shl is = absurd cc
      by Shr is = absurd cc
      by Add is = absurd cc
      by Sub is = absurd cc
      by Mul is = absurd cc
      by Div is = absurd cc
      by Rem is = absurd cc

  pub left-sees : (operator : CBin) (a b : Expr) → spares_left old new operator a b ≡ true → (is_equality operator || joins_truths operator) ≡ false → (operator ≡ And) × (is_wide 8 (type_of old a) ≡ true) × (is_small b ≡ true)
  left-sees operator a b is unlike = by operator (left-told operator a b is) unlike
    where
      by : (o : CBin) → ((joins_truths o && is_number new a) || ((is_equality o && are_words old new a b) || ((is_equality o || is_and o) && (is_wide 8 (type_of old a) && is_small b)))) ≡ true → (is_equality o || joins_truths o) ≡ false →
          (o ≡ And) × (is_wide 8 (type_of old a) ≡ true) × (is_small b ≡ true)
      by And is unlike = let parts = and_parts (is_wide 8 (type_of old a)) (is_small b) is in (refl, parts.0, parts.1)
      by OrOr is unlike = absurd cc
      by AndAnd is unlike = absurd cc
      by Eq is unlike = absurd cc
      by Ne is unlike = absurd cc
      by Or is unlike = absurd cc
      by Xor is unlike = absurd cc
      by Lt is unlike = absurd cc
      by Le is unlike = absurd cc
      by Gt is unlike = absurd cc
      by Ge is unlike = absurd cc
      by Shl is unlike = absurd cc
      by Shr is unlike = absurd cc
      by Add is unlike = absurd cc
      by Sub is unlike = absurd cc
      by Mul is unlike = absurd cc
      by Div is unlike = absurd cc
      by Rem is unlike = absurd cc

-- The type of a name before and after: one, or those of numbers of one size.
pub data Turned : Option CType → Option CType → Type 0 where
  still : {o : Option CType} → Turned o o
  turned : {a c : Base} → bits_of c ≡ bits_of a → Turned (Some (plain a)) (Some (plain c))

pub name-turned : {o p : Option Declared} → Told o p → Turned (option_and_then type_of_name o) (option_and_then type_of_name p)
name-turned told_none = still
name-turned (told_one stays) = still
name-turned (told_one (turns size)) = turned size

pub address-stays : {o p : Option Declared} → Told o p → option_and_then type_of_address p ≡ option_and_then type_of_address o
address-stays told_none = refl
address-stays (told_one stays) = refl
address-stays (told_one (turns size)) = refl

-- a side of an operator is written with its type, or it is a number whose type has the same size
data Side : Option CType → Option CType → Type 0 where
  kept_side : {o : Option CType} → Side o o
  turned_side : {a c : Base} → bits_of c ≡ bits_of a → Side (Some (plain a)) (Some (plain c))

-- a test has the type of what is chosen
tested-side : {o p : Option CType} (type : Option CType) → Side o p → tested_type p type ≡ tested_type o type
tested-side type kept_side = refl
tested-side type (turned_side size) = refl

-- the operators that compare or join truths see no more than that both are numbers
abbrev sees_numbers : CBin → Bool
sees_numbers operator = is_equality operator || joins_truths operator

numbers-side : (operator : CBin) → sees_numbers operator ≡ true → {o p q r : Option CType} → Side o p → Side q r → both_types operator p r ≡ both_types operator o q
numbers-side operator is kept_side kept_side = refl
numbers-side OrOr is (turned_side size) (turned_side also) = refl
numbers-side AndAnd is (turned_side size) (turned_side also) = refl
numbers-side Eq is (turned_side size) (turned_side also) = refl
numbers-side Ne is (turned_side size) (turned_side also) = refl
numbers-side OrOr is (turned_side size) (kept_side {o = None}) = refl
numbers-side OrOr is (turned_side size) (kept_side {o = Some t}) = refl
numbers-side AndAnd is (turned_side size) (kept_side {o = None}) = refl
numbers-side AndAnd is (turned_side size) (kept_side {o = Some t}) = refl
numbers-side Eq is (turned_side size) (kept_side {o = None}) = refl
numbers-side Eq is (turned_side size) (kept_side {o = Some t}) = refl
numbers-side Ne is (turned_side size) (kept_side {o = None}) = refl
numbers-side Ne is (turned_side size) (kept_side {o = Some t}) = refl
numbers-side OrOr is (kept_side {o = None}) (turned_side size) = refl
numbers-side OrOr is (kept_side {o = Some t}) (turned_side size) = refl
numbers-side AndAnd is (kept_side {o = None}) (turned_side size) = refl
numbers-side AndAnd is (kept_side {o = Some t}) (turned_side size) = refl
numbers-side Eq is (kept_side {o = None}) (turned_side size) = refl
numbers-side Eq is (kept_side {o = Some t}) (turned_side size) = refl
numbers-side Ne is (kept_side {o = None}) (turned_side size) = refl
numbers-side Ne is (kept_side {o = Some t}) (turned_side size) = refl
numbers-side Or is first second = absurd cc
numbers-side Xor is first second = absurd cc
numbers-side And is first second = absurd cc
numbers-side Lt is first second = absurd cc
numbers-side Le is first second = absurd cc
numbers-side Gt is first second = absurd cc
numbers-side Ge is first second = absurd cc
numbers-side Shl is first second = absurd cc
numbers-side Shr is first second = absurd cc
numbers-side Add is first second = absurd cc
numbers-side Sub is first second = absurd cc
numbers-side Mul is first second = absurd cc
numbers-side Div is first second = absurd cc
numbers-side Rem is first second = absurd cc

-- of two chars either is promoted to one type
joined-side : {o p : Option CType} (q : Option CType) → is_wide 8 o ≡ true → Side o p → both_types And p q ≡ both_types And o q
joined-side q char kept_side = refl
joined-side None char (turned_side size) = refl
joined-side (Some t) char (turned_side {a} {c} size) = by t.pointer
  where
    eight : bits_of a ≡ 8
    eight = eqb-true (bits_of a) 8 char

    by : (p : Bool) → (if p then None else Some (plain (common_type c t.base))) ≡ (if p then None else Some (plain (common_type a t.base)))
    by true = refl
    by false = ap (λ b. Some (plain b)) (common-chars a c t.base eight (size ∙ eight))

one-side : {o p : Option CType} → Side o p → option_and_then (unary_type Not) p ≡ option_and_then (unary_type Not) o
one-side kept_side = refl
one-side (turned_side size) = refl

-- The decisions are made by the declarations before and after; the types are told of lists in which each name has the
-- type that it has there.
pub record Tells (old new ds es : List Declared) (word : Word) : Type 0 where
  pub first : type_of ds (Name word) ≡ type_of old (Name word)
  pub second : type_of es (Name word) ≡ type_of new (Name word)
  pub turned : Turned (type_of old (Name word)) (type_of new (Name word))
  pub address : option_and_then type_of_address (declared_as es word) ≡ option_and_then type_of_address (declared_as ds word)

module _ (old new ds es : List Declared) (tells : (word : Word) → Tells old new ds es word) where
  abbrev Keeps : Expr → Type 0
  Keeps e = type_of es (exact old new e) ≡ type_of ds e

  -- a name that is read
  read-type : (word : Word) → Turned (type_of old (Name word)) (type_of new (Name word)) → type_of ds (Name word) ≡ type_of old (Name word) → type_of es (Name word) ≡ type_of new (Name word) → type_of es (read old new (Name word)) ≡ type_of ds (Name word)
  read-type word is first second = by is second ∙ sym first
    where
      still-one : (o : Option CType) → type_of es (Name word) ≡ o → type_of es (elim (changed_from o o) [ Some type ↦ Cast type (Name word) | None ↦ Name word ]) ≡ o
      still-one None is = is
      still-one (Some t) is = ap (λ b. type_of es (elim (if b then None else Some t) [ Some type ↦ Cast type (Name word) | None ↦ Name word ])) (same-self t) ∙ is

      either : (a c : Base) → type_of es (Name word) ≡ Some (plain c) → (b : Bool) → same_type (plain a) (plain c) ≡ b → type_of es (elim (if b then None else Some (plain a)) [ Some type ↦ Cast type (Name word) | None ↦ Name word ]) ≡ Some (plain a)
      either a c is true same = is ∙ ap Some (sym (one-type (plain a) (plain c) same))
      either a c is false same = ap (option_map (λ from. plain a)) is

      by : {o p : Option CType} → Turned o p → type_of es (Name word) ≡ p → type_of es (elim (changed_from o p) [ Some type ↦ Cast type (Name word) | None ↦ Name word ]) ≡ o
      by (still {o}) is = still-one o is
      by (turned {a} {c} size) is = either a c is (same_type (plain a) (plain c)) refl

  -- a cast of a name
  cast-type : (type : CType) (word : Word) → Turned (type_of old (Name word)) (type_of new (Name word)) → type_of ds (Name word) ≡ type_of old (Name word) → type_of es (Name word) ≡ type_of new (Name word) → type_of es (cast_read old new type (Name word)) ≡ type_of ds (Cast type (Name word))
  cast-type type word is first second = by is second ∙ sym (ap (option_map (λ from. type)) first)
    where
      casted : Option CType → Option CType → Expr
      casted o p = elim (changed_from o p) [
        | Some own ↦ if nat_le (room_of type) (room_of own) then (if has_type p type then Name word else Cast type (Name word)) else Cast type (Cast own (Name word))
        | None ↦ Cast type (Name word)
      ]

      still-one : (o : Option CType) → type_of es (Name word) ≡ o → type_of es (casted o o) ≡ option_map (λ from. type) o
      still-one None is = ap (option_map (λ from. type)) is
      still-one (Some t) is =
          ap (λ b. type_of es (elim (if b then None else Some t) [ Some own ↦ if nat_le (room_of type) (room_of own) then (if same_type type t then Name word else Cast type (Name word)) else Cast type (Cast own (Name word)) | None ↦ Cast type (Name word) ])) (same-self t)
          ∙ ap (option_map (λ from. type)) is

      inner : (a c : Base) → type_of es (Name word) ≡ Some (plain c) → (k b : Bool) → same_type type (plain c) ≡ b →
          type_of es (if k then (if b then Name word else Cast type (Name word)) else Cast type (Cast (plain a) (Name word))) ≡ Some type
      inner a c is true true same = is ∙ ap Some (sym (one-type type (plain c) same))
      inner a c is true false same = ap (option_map (λ from. type)) is
      inner a c is false b same = ap (λ o. option_map (λ from. type) (option_map (λ from. plain a) o)) is

      either : (a c : Base) → type_of es (Name word) ≡ Some (plain c) → (b : Bool) →
          type_of es (elim (if b then None else Some (plain a)) [ Some own ↦ if nat_le (room_of type) (room_of own) then (if same_type type (plain c) then Name word else Cast type (Name word)) else Cast type (Cast own (Name word)) | None ↦ Cast type (Name word) ]) ≡ Some type
      either a c is true = ap (option_map (λ from. type)) is
      either a c is false = inner a c is (nat_le (room_of type) (room_of (plain a))) (same_type type (plain c)) refl

      by : {o p : Option CType} → Turned o p → type_of es (Name word) ≡ p → type_of es (casted o p) ≡ option_map (λ from. type) o
      by (still {o}) is = still-one o is
      by (turned {a} {c} size) is = either a c is (same_type (plain a) (plain c))

  -- Operands.

  name-side : (word : Word) → Side (type_of ds (Name word)) (type_of es (Name word))
  name-side word =
      subst (λ o. Side o (type_of es (Name word))) (sym (tells word).first) (subst (Side (type_of old (Name word))) (sym (tells word).second) (by (tells word).turned))
    where
      by : {o p : Option CType} → Turned o p → Side o p
      by still = kept_side
      by (turned size) = turned_side size

  -- what is left bare is a name
  bare-side : (b : Bool) (a : Expr) → (b ≡ true → is_name a ≡ true) → Keeps a → Side (type_of ds a) (type_of es (if b then a else exact old new a))
  bare-side false a name keeps = subst (Side (type_of ds a)) (sym keeps) kept_side
  bare-side true (Name word) name keeps = name-side word
  bare-side true (Number n base) name keeps = let no : false ≡ true = name refl in absurd cc
  bare-side true (Unary operator a) name keeps = let no : false ≡ true = name refl in absurd cc
  bare-side true (Binary operator a b) name keeps = let no : false ≡ true = name refl in absurd cc
  bare-side true (Conditional a b c) name keeps = let no : false ≡ true = name refl in absurd cc
  bare-side true (Cast type a) name keeps = let no : false ≡ true = name refl in absurd cc

  bare-name : (e : Expr) → is_bare old new e ≡ true → is_name e ≡ true
  bare-name e is = (and_parts (is_name e) (is_number new e) is).0

  binary-type : (operator : CBin) (a b : Expr) → Keeps a → Keeps b → Keeps (Binary operator a b)
  binary-type operator a b first second = by (spares_left old new operator a b) (spares_right old new operator a b) (sees_numbers operator) refl refl refl
    where
      char-there : (e : Expr) → is_name e ≡ true → is_wide 8 (type_of old e) ≡ true → is_wide 8 (type_of ds e) ≡ true
      char-there (Name word) name char = ap (is_wide 8) (tells word).first ∙ char
      char-there (Number n base) name char = absurd cc
      char-there (Unary o x) name char = absurd cc
      char-there (Binary o x y) name char = absurd cc
      char-there (Conditional x y z) name char = absurd cc
      char-there (Cast t x) name char = absurd cc

      by : (l r n : Bool) → spares_left old new operator a b ≡ l → spares_right old new operator a b ≡ r → sees_numbers operator ≡ n →
          both_types operator (type_of es (if l then a else exact old new a)) (type_of es (if r then b else exact old new b)) ≡ both_types operator (type_of ds a) (type_of ds b)
      by l r true left right numbers =
          numbers-side operator numbers (bare-side l a (λ is. left-name old new operator a b (left ∙ is)) first) (bare-side r b (λ is. right-name old new operator a b (right ∙ is)) second)
      by l true false left right numbers = let no : false ≡ true = sym numbers ∙ right-sees old new operator a b right in absurd cc
      by false false false left right numbers = ap₂ (both_types operator) first second
      by true false false left right numbers =
          let known = left-sees old new operator a b left numbers in
          subst (λ (p : CBin). both_types p (type_of es a) (type_of es (exact old new b)) ≡ both_types p (type_of ds a) (type_of ds b)) (sym known.0)
          (ap (both_types And (type_of es a)) second ∙ joined-side (type_of ds b) (char-there a (left-name old new operator a b left) known.1) (bare-side true a (λ is. left-name old new operator a b left) first))

  address-type : (a : Expr) → type_of es (Unary AddressOf a) ≡ type_of ds (Unary AddressOf a)
  address-type (Name word) = (tells word).address
  address-type (Number n base) = refl
  address-type (Unary operator a) = refl
  address-type (Binary operator a b) = refl
  address-type (Conditional a b c) = refl
  address-type (Cast type a) = refl

  -- the expression has its type
  pub exact-type : (e : Expr) → Keeps e
  exact-type (Number n base) = refl
  exact-type (Name word) = read-type word (tells word).turned (tells word).first (tells word).second
  exact-type (Unary AddressOf a) = address-type a
  exact-type (Unary Not a) = one-side (bare-side (is_bare old new a) a (bare-name a) (exact-type a))
  exact-type (Unary Minus a) = ap (option_and_then (unary_type Minus)) (exact-type a)
  exact-type (Unary Complement a) = ap (option_and_then (unary_type Complement)) (exact-type a)
  exact-type (Unary Deref a) = ap (option_and_then (unary_type Deref)) (exact-type a)
  exact-type (Binary operator a b) = binary-type operator a b (exact-type a) (exact-type b)
  exact-type (Conditional a b c) =
      ap (tested_type (type_of es (if is_bare old new a then a else exact old new a))) (ap₂ both_arms_type (exact-type b) (exact-type c))
      ∙ tested-side (both_arms_type (type_of ds b) (type_of ds c)) (bare-side (is_bare old new a) a (bare-name a) (exact-type a))
  exact-type (Cast type (Name word)) = cast-type type word (tells word).turned (tells word).first (tells word).second
  exact-type (Cast type (Number n base)) = refl
  exact-type (Cast type (Unary operator a)) = ap (option_map (λ from. type)) (exact-type (Unary operator a))
  exact-type (Cast type (Binary operator a b)) = ap (option_map (λ from. type)) (exact-type (Binary operator a b))
  exact-type (Cast type (Conditional a b c)) = ap (option_map (λ from. type)) (exact-type (Conditional a b c))
  exact-type (Cast type (Cast other a)) = ap (option_map (λ from. type)) (exact-type (Cast other a))
