-- An expression that has been read to its end has a type just where nothing in it offends.
use Rattle.std.proofs.Common.{◌≡◌, ℕ, Bool, true, false, ◌&&◌, ◌||◌, List, [], ◌∷◌, ◌++◌, Option, Some, None, refl, sym, ap, ◌∙◌}
use Rattle.std.specs.Prelude.{not, is_some, is_none, option_map, option_and_then, if◌then◌else◌}
use Rattle.dcc_c.specs.declared.syntax.Base.TheVariants.{Int}
use Rattle.dcc_c.specs.declared.syntax.CType.{CType}
use Rattle.dcc_c.specs.declared.syntax.CUn.{CUn}
use Rattle.dcc_c.specs.declared.syntax.CUn.TheVariants.{Minus, Complement, Not, Deref, AddressOf}
use Rattle.dcc_c.specs.declared.syntax.CBin.{CBin}
use Rattle.dcc_c.specs.Tree.{Word, Unary}
use Rattle.dcc_c.specs.Types.{plain, promoted_type}
use Rattle.dcc_c.specs.Typing.{numbers_type, Declared, declared_as, type_of_name, type_of_address, unary_type, binary_type, is_comparison, is_sum, both_types, arms_type, both_arms_type, tested_type, type_of}
use Rattle.dcc_c.specs.Kinds.{of_name, of_type, Offence, offence, only_if}
use Rattle.dcc_c.specs.Partial.{PartialExpr, Missing, NumberHere, NameHere, UnaryHere, BinaryOf, ConditionalOf, CastHere, place_of}
use Rattle.dcc_c.specs.Known.{known_as}
use Rattle.dcc_c.specs.Offences.{BodyContext, told_type, no_variable, value_offences, wants_number, wants_pointer, unary_offences, second_offends, binary_offences, arms_offences, address_offences, expr_offences, is_pointer}
use Rattle.dcc_c.specs.Stripped.{plain_expr}
use Rattle.dcc_c.specs.Complete.{is_complete_expr}

-- no offence, where two lists hold none
pub none-both : {A : Type 0} (xs ys : List A) → xs ++ ys ≡ [] → (xs ≡ []) × (ys ≡ [])
none-both [] ys e = (refl, e)
none-both (x ∷ xs) ys e = absurd cc

pub none-only : (test : Bool) (o : Offence) → only_if test o ≡ [] → test ≡ false
none-only true o e = absurd cc
none-only false o e = refl

-- the expression has a type, which is told
pub record IsTyped (names : List Declared) (e : PartialExpr) : Type 0 where
  pub type : CType
  pub told : told_type names e ≡ Some type
  pub is : type_of names (plain_expr e) ≡ Some type

some-of : {A : Type 0} (o : Option A) → is_none o ≡ false → (x : A) × (o ≡ Some x)
some-of None e = absurd cc
some-of (Some x) e = (x, refl)

pub true-false : true ≡ false → ⊥
true-false e = absurd cc

pub no-some : {A : Type 0} {x : A} → None ≡ Some x → ⊥
no-some e = absurd cc

typed : (names : List Declared) (e : PartialExpr) (type : CType) → told_type names e ≡ Some type → type_of names (plain_expr e) ≡ Some type → IsTyped names e
typed names e type told is = record { type = type; told = told; is = is }

-- A name.
name-typed : (scene : BodyContext) (at : ℕ) (word : Word) → value_offences scene at word false ≡ [] → IsTyped scene.names (NameHere at word false)
name-typed scene at word e = elim (declared_as scene.names word) as (λ d. declared_as scene.names word ≡ d → (elim d [ Some d ↦ only_if (is_none (type_of_name d)) (offence of_type at) | None ↦ no_variable scene at word false ]) ≡ [] → IsTyped scene.names (NameHere at word false)) [
  | Some d ↦ λ is none. elim (type_of_name d) as (λ t. type_of_name d ≡ t → only_if (is_none t) (offence of_type at) ≡ [] → IsTyped scene.names (NameHere at word false)) [
    | Some type ↦ λ named _. typed scene.names (NameHere at word false) type (rw is named) (rw is named)
    | None ↦ λ named wrong. absurd cc
  ] refl none
  | None ↦ λ is wrong. elim (is_some (known_as scene.functions word)) as (λ known. (if known then only_if true (offence of_type at) else offence of_name at ∷ []) ≡ [] → IsTyped scene.names (NameHere at word false)) [
    | true ↦ λ bad. absurd cc
    | false ↦ λ bad. absurd cc
  ] wrong
] refl e

pub and-both : (a b : Bool) → a && b ≡ true → (a ≡ true) × (b ≡ true)
and-both true b e = (refl, e)
and-both false b e = absurd cc

pub or-left : (a b : Bool) → a || b ≡ false → a ≡ false
or-left true b e = absurd cc
or-left false b e = refl

pub or-right : (a b : Bool) → a || b ≡ false → b ≡ false
or-right true b e = absurd cc
or-right false b e = e

-- Unary operators.

number-typed : (names : List Declared) (at : ℕ) (operator : CUn) (a : PartialExpr) (t : IsTyped names a) (type : CType) →
    told_type names (UnaryHere at operator a) ≡ option_and_then (unary_type operator) (told_type names a) →
    type_of names (Unary operator (plain_expr a)) ≡ option_and_then (unary_type operator) (type_of names (plain_expr a)) →
    unary_type operator t.type ≡ Some type → IsTyped names (UnaryHere at operator a)
number-typed names at operator a t type told is e = typed names (UnaryHere at operator a) type
    (told ∙ ap (option_and_then (unary_type operator)) t.told ∙ e) (is ∙ ap (option_and_then (unary_type operator)) t.is ∙ e)

pub no-pointer : (scene : BodyContext) (a : PartialExpr) (t : IsTyped scene.names a) → wants_number scene a ≡ [] → t.type.pointer ≡ false
no-pointer scene a t e = ap is_pointer (sym t.told) ∙ none-only (is_pointer (told_type scene.names a)) (offence of_type (place_of a)) e

a-pointer : (scene : BodyContext) (a : PartialExpr) (t : IsTyped scene.names a) → wants_pointer scene a ≡ [] → t.type.pointer ≡ true
a-pointer scene a t e = elim t.type.pointer as (λ p. only_if (not p) (offence of_type (place_of a)) ≡ [] → p ≡ true) [
  | true ↦ λ _. refl
  | false ↦ λ bad. absurd cc
] (ap (λ o. elim o [ Some type ↦ only_if (not type.pointer) (offence of_type (place_of a)) | None ↦ [] ]) (sym t.told) ∙ e)

no-declared : (names : List Declared) (at : ℕ) (word : Word) → declared_as names word ≡ None → IsTyped names (NameHere at word false) → ⊥
no-declared names at word is t = no-some (sym (ap (option_and_then type_of_name) is) ∙ t.told)

-- whatever is no name has a type, or offends
told-offends : (scene : BodyContext) (a : PartialExpr) → (expr_offences scene a ≡ [] → IsTyped scene.names a) →
    expr_offences scene a ++ only_if (is_some (told_type scene.names a)) (offence of_type (place_of a)) ≡ [] → ⊥
told-offends scene a typed-a e =
    let both = none-both (expr_offences scene a) (only_if (is_some (told_type scene.names a)) (offence of_type (place_of a))) e in
    let t = typed-a both.0 in
    true-false (ap is_some (sym t.told) ∙ none-only (is_some (told_type scene.names a)) (offence of_type (place_of a)) both.1)

address-none : (scene : BodyContext) (place : ℕ) (word : Word) → declared_as scene.names word ≡ None → (inner : List Offence) →
    address_offences scene (NameHere place word false) inner ≡ inner ++ only_if (is_some (told_type scene.names (NameHere place word false))) (offence of_type place)
address-none scene place word is inner = ap (λ o. elim o [ Some d ↦ only_if (is_none (type_of_address d)) (offence of_type place) | None ↦ inner ++ only_if (is_some (told_type scene.names (NameHere place word false))) (offence of_type place) ]) is

address-some : (scene : BodyContext) (place : ℕ) (word : Word) (d : Declared) → declared_as scene.names word ≡ Some d → (inner : List Offence) →
    address_offences scene (NameHere place word false) inner ≡ only_if (is_none (type_of_address d)) (offence of_type place)
address-some scene place word d is inner = ap (λ o. elim o [ Some d ↦ only_if (is_none (type_of_address d)) (offence of_type place) | None ↦ inner ++ only_if (is_some (told_type scene.names (NameHere place word false))) (offence of_type place) ]) is

address-declared : (scene : BodyContext) (at place : ℕ) (word : Word) (d : Declared) → declared_as scene.names word
    ≡ Some d →
    only_if (is_none (type_of_address d)) (offence of_type place) ≡ [] → IsTyped scene.names (UnaryHere at AddressOf (NameHere place word false))
address-declared scene at place word d is e =
    let some = some-of (type_of_address d) (none-only (is_none (type_of_address d)) (offence of_type place) e) in
    typed scene.names (UnaryHere at AddressOf (NameHere place word false)) some.0
    (ap (option_and_then type_of_address) is ∙ some.1) (ap (option_and_then type_of_address) is ∙ some.1)

-- the operand of `&`
address-typed : (scene : BodyContext) (at : ℕ) (a : PartialExpr) → is_complete_expr a ≡ true →
    (expr_offences scene a ≡ [] → IsTyped scene.names a) →
    address_offences scene a (expr_offences scene a) ≡ [] → IsTyped scene.names (UnaryHere at AddressOf a)
address-typed scene at Missing whole typed-a e = absurd cc
address-typed scene at (NumberHere place n base) whole typed-a e = absurd cc
address-typed scene at (NameHere place word true) whole typed-a e = absurd cc
address-typed scene at (NameHere place word false) whole typed-a e = elim (declared_as scene.names word) as (λ d. declared_as scene.names word ≡ d → IsTyped scene.names (UnaryHere at AddressOf (NameHere place word false))) [
  | Some d ↦ λ is. address-declared scene at place word d is (sym (address-some scene place word d is _) ∙ e)
  | None ↦ λ is. absurd (told-offends scene (NameHere place word false) typed-a (sym (address-none scene place word is _) ∙ e))
] refl
address-typed scene at (UnaryHere place operator a) whole typed-a e = absurd (told-offends scene (UnaryHere place operator a) typed-a e)
address-typed scene at (BinaryOf operator a b) whole typed-a e = absurd (told-offends scene (BinaryOf operator a b) typed-a e)
address-typed scene at (ConditionalOf a b c) whole typed-a e = absurd (told-offends scene (ConditionalOf a b c) typed-a e)
address-typed scene at (CastHere place type a) whole typed-a e = absurd (told-offends scene (CastHere place type a) typed-a e)

-- Binary operators.

binary-some : (operator : CBin) (a b : CType) → is_comparison operator || is_sum operator ≡ false → a.pointer ≡ false → b.pointer ≡ false →
    (type : CType) × (binary_type operator a b ≡ Some type)
binary-some operator a b plain-operator p q = (plain (numbers_type operator a.base b.base), rw p (rw q refl))

joined-typed : (scene : BodyContext) (operator : CBin) (a b : PartialExpr) (s : IsTyped scene.names a) (t : IsTyped scene.names b) (type : CType) →
    binary_type operator s.type t.type ≡ Some type → IsTyped scene.names (BinaryOf operator a b)
joined-typed scene operator a b s t type e = typed scene.names (BinaryOf operator a b) type
    (ap (λ o. both_types operator o (told_type scene.names b)) s.told ∙ ap (both_types operator (Some s.type)) t.told ∙ e)
    (ap (λ o. both_types operator o (type_of scene.names (plain_expr b))) s.is ∙ ap (both_types operator (Some s.type)) t.is ∙ e)

second-fits : (scene : BodyContext) (operator : CBin) (a b : PartialExpr) (s : IsTyped scene.names a) (t : IsTyped scene.names b) →
    second_offends scene operator a b ≡ [] → (type : CType) × (binary_type operator s.type t.type ≡ Some type)
second-fits scene operator a b s t e = some-of (binary_type operator s.type t.type)
    (ap (λ o. (is_some o && is_some (Some t.type)) && is_none (both_types operator o (Some t.type))) (sym s.told)
    ∙ ap (λ o. (is_some (told_type scene.names a) && is_some o) && is_none (both_types operator (told_type scene.names a) o)) (sym t.told)
    ∙ none-only ((is_some (told_type scene.names a) && is_some (told_type scene.names b)) && is_none (both_types operator (told_type scene.names a) (told_type scene.names b))) (offence of_type (place_of b)) e)

binary-typed : (scene : BodyContext) (operator : CBin) (a b : PartialExpr) (s : IsTyped scene.names a) (t : IsTyped scene.names b) →
    binary_offences scene operator a b ≡ [] → IsTyped scene.names (BinaryOf operator a b)
binary-typed scene operator a b s t e = elim (is_comparison operator || is_sum operator) as (λ q. is_comparison operator || is_sum operator ≡ q →
    (if q then second_offends scene operator a b else wants_number scene a ++ wants_number scene b) ≡ [] → IsTyped scene.names (BinaryOf operator a b)) [
      | true ↦ λ _ none. let fits = second-fits scene operator a b s t none in joined-typed scene operator a b s t fits.0 fits.1
      | false ↦ λ other none. let both = none-both (wants_number scene a) (wants_number scene b) none in
          let some = binary-some operator s.type t.type other (no-pointer scene a s both.0) (no-pointer scene b t both.1) in
          joined-typed scene operator a b s t some.0 some.1
    ] refl e

-- Conditionals.

arms-typed : (scene : BodyContext) (a b c : PartialExpr) (r : IsTyped scene.names a) (s : IsTyped scene.names b) (t : IsTyped scene.names c) →
    wants_number scene a ≡ [] → arms_offences scene b c ≡ [] → IsTyped scene.names (ConditionalOf a b c)
arms-typed scene a b c r s t number arms =
    let some = some-of (both_arms_type (Some s.type) (Some t.type))
    (ap (λ o. (is_some o && is_some (Some t.type)) && is_none (both_arms_type o (Some t.type))) (sym s.told)
    ∙ ap (λ o. (is_some (told_type scene.names b) && is_some o) && is_none (both_arms_type (told_type scene.names b) o)) (sym t.told)
    ∙ none-only ((is_some (told_type scene.names b) && is_some (told_type scene.names c)) && is_none (both_arms_type (told_type scene.names b) (told_type scene.names c))) (offence of_type (place_of c)) arms) in
    typed scene.names (ConditionalOf a b c) some.0
    (ap (λ o. both_arms_type o (told_type scene.names c)) s.told ∙ ap (both_arms_type (Some s.type)) t.told ∙ some.1)
    (ap (λ o. tested_type o (both_arms_type (type_of scene.names (plain_expr b)) (type_of scene.names (plain_expr c)))) r.is
    ∙ ap (λ (p : Bool). if p then None else both_arms_type (type_of scene.names (plain_expr b)) (type_of scene.names (plain_expr c))) (no-pointer scene a r number)
    ∙ ap (λ o. both_arms_type o (type_of scene.names (plain_expr c))) s.is ∙ ap (both_arms_type (Some s.type)) t.is ∙ some.1)

-- A complete expression in which nothing offends has a type.
pub expr-typed : (scene : BodyContext) (e : PartialExpr) → is_complete_expr e ≡ true → expr_offences scene e ≡ [] → IsTyped scene.names e
expr-typed scene Missing whole none = absurd cc
expr-typed scene (NumberHere at n base) whole none = typed scene.names (NumberHere at n base) (plain base) refl refl
expr-typed scene (NameHere at word true) whole none = absurd cc
expr-typed scene (NameHere at word false) whole none = name-typed scene at word none
expr-typed scene (UnaryHere at AddressOf a) whole none = address-typed scene at a whole (expr-typed scene a whole) none
expr-typed scene (UnaryHere at Minus a) whole none =
    let both = none-both (expr_offences scene a) (wants_number scene a) none in
    let t = expr-typed scene a whole both.0 in
    number-typed scene.names at Minus a t (plain (promoted_type t.type.base)) refl refl (rw (no-pointer scene a t both.1) refl)
expr-typed scene (UnaryHere at Complement a) whole none =
    let both = none-both (expr_offences scene a) (wants_number scene a) none in
    let t = expr-typed scene a whole both.0 in
    number-typed scene.names at Complement a t (plain (promoted_type t.type.base)) refl refl (rw (no-pointer scene a t both.1) refl)
expr-typed scene (UnaryHere at Not a) whole none =
    let both = none-both (expr_offences scene a) (wants_number scene a) none in
    let t = expr-typed scene a whole both.0 in
    number-typed scene.names at Not a t (plain Int) refl refl (rw (no-pointer scene a t both.1) refl)
expr-typed scene (UnaryHere at Deref a) whole none =
    let both = none-both (expr_offences scene a) (wants_pointer scene a) none in
    let t = expr-typed scene a whole both.0 in
    number-typed scene.names at Deref a t (plain t.type.base) refl refl (rw (a-pointer scene a t both.1) refl)
expr-typed scene (BinaryOf operator a b) whole none =
    let parts = and-both (is_complete_expr a) (is_complete_expr b) whole in
    let first = none-both (expr_offences scene a) (expr_offences scene b ++ binary_offences scene operator a b) none in
    let second = none-both (expr_offences scene b) (binary_offences scene operator a b) first.1 in
    binary-typed scene operator a b (expr-typed scene a parts.0 first.0) (expr-typed scene b parts.1 second.0) second.1
expr-typed scene (ConditionalOf a b c) whole none =
    let parts = and-both (is_complete_expr a) (is_complete_expr b && is_complete_expr c) whole in
    let others = and-both (is_complete_expr b) (is_complete_expr c) parts.1 in
    let first = none-both (expr_offences scene a) _ none in
    let second = none-both (expr_offences scene b) _ first.1 in
    let third = none-both (expr_offences scene c) (wants_number scene a ++ arms_offences scene b c) second.1 in
    let own = none-both (wants_number scene a) (arms_offences scene b c) third.1 in
    arms-typed scene a b c (expr-typed scene a parts.0 first.0) (expr-typed scene b others.0 second.0) (expr-typed scene c others.1 third.0) own.0 own.1
expr-typed scene (CastHere at type a) whole none =
    let t = expr-typed scene a whole none in
    typed scene.names (CastHere at type a) type refl (ap (option_map (λ from. type)) t.is)

-- From a type to no offence: nothing offends in an expression that has a type.
pub record IsClean (scene : BodyContext) (e : PartialExpr) (type : CType) : Type 0 where
  pub none : expr_offences scene e ≡ []
  pub told : told_type scene.names e ≡ Some type

clean : (scene : BodyContext) (e : PartialExpr) (type : CType) → expr_offences scene e ≡ [] → told_type scene.names e ≡ Some type → IsClean scene e type
clean scene e type none told = record { none = none; told = told }

-- what an operation has a value for, and what its argument is then
pub then-some : {A B : Type 0} (f : A → Option B) (o : Option A) (y : B) → option_and_then f o ≡ Some y → (x : A) × (o ≡ Some x) × (f x ≡ Some y)
then-some f None y e = absurd cc
then-some f (Some x) y e = (x, refl, e)

pub both-empty : {A : Type 0} {xs ys : List A} → xs ≡ [] → ys ≡ [] → xs ++ ys ≡ []
both-empty {ys = ys} e f = ap (λ l. l ++ ys) e ∙ f

pub no-number : (scene : BodyContext) (a : PartialExpr) (type : CType) → told_type scene.names a ≡ Some type → type.pointer ≡ false → wants_number scene a ≡ []
no-number scene a type told p = ap (λ q. only_if q (offence of_type (place_of a))) (ap is_pointer told ∙ p)

name-clean : (scene : BodyContext) (at : ℕ) (word : Word) (called : Bool) (type : CType) → option_and_then type_of_name (declared_as scene.names word) ≡ Some type → IsClean scene (NameHere at word called) type
name-clean scene at word called type e =
    let found = then-some type_of_name (declared_as scene.names word) type e in
    clean scene (NameHere at word called) type
    (ap (λ o. elim o [ Some d ↦ only_if (is_none (type_of_name d)) (offence of_type at) | None ↦ no_variable scene at word called ]) found.1
    ∙ ap (λ o. only_if (is_none o) (offence of_type at)) found.2) e

number-clean : (scene : BodyContext) (at : ℕ) (operator : CUn) (a : PartialExpr) (type from : CType)
    → IsClean scene a from →
    unary_type operator from ≡ Some type →
    expr_offences scene (UnaryHere at operator a) ≡ expr_offences scene a ++ unary_offences scene operator a →
    told_type scene.names (UnaryHere at operator a) ≡ option_and_then (unary_type operator) (told_type scene.names a) →
    unary_offences scene operator a ≡ [] → IsClean scene (UnaryHere at operator a) type
number-clean scene at operator a type from c is offences told own =
    clean scene (UnaryHere at operator a) type (offences ∙ both-empty c.none own) (told ∙ ap (option_and_then (unary_type operator)) c.told ∙ is)

-- a number's operator takes no pointer
number-of : (operator : CUn) (from type : CType) → unary_type operator from ≡ Some type → (operator ≡ Deref → ⊥) → from.pointer ≡ false
number-of operator from type e other = elim from.pointer as (λ p. from.pointer ≡ p → p ≡ false) [
  | false ↦ λ _. refl
  | true ↦ λ p. elim operator as (λ o. operator ≡ o → true ≡ false) [
    | Deref ↦ λ is. absurd (other is)
    | Minus ↦ λ is. absurd (no-some (sym (rw is (rw p refl)) ∙ e))
    | Complement ↦ λ is. absurd (no-some (sym (rw is (rw p refl)) ∙ e))
    | Not ↦ λ is. absurd (no-some (sym (rw is (rw p refl)) ∙ e))
    | AddressOf ↦ λ is. absurd (no-some (sym (rw is (rw p refl)) ∙ e))
  ] refl
] refl

pointed-clean : (scene : BodyContext) (a : PartialExpr) (from type : CType) → IsClean scene a from → unary_type Deref from ≡ Some type → wants_pointer scene a ≡ []
pointed-clean scene a from type c e = ap (λ o. elim o [ Some type ↦ only_if (not type.pointer) (offence of_type (place_of a)) | None ↦ [] ]) c.told
    ∙ elim from.pointer as (λ p. (if p then Some (plain from.base) else None) ≡ Some type → only_if (not p) (offence of_type (place_of a)) ≡ []) [
      | true ↦ λ _. refl
      | false ↦ λ bad. absurd (no-some bad)
    ] e

both-some : (operator : CBin) (o q : Option CType) (type : CType) → both_types operator o q ≡ Some type →
    (a : CType) × (b : CType) × (o ≡ Some a) × (q ≡ Some b) × (binary_type operator a b ≡ Some type)
both-some operator (Some a) (Some b) type e = (a, b, refl, refl, e)
both-some operator (Some a) None type e = absurd cc
both-some operator None q type e = absurd cc

second-clean : (scene : BodyContext) (operator : CBin) (a b : PartialExpr) (s t type : CType) → told_type scene.names a ≡ Some s → told_type scene.names b ≡ Some t →
    binary_type operator s t ≡ Some type → second_offends scene operator a b ≡ []
second-clean scene operator a b s t type first second e =
    ap (λ q. only_if q (offence of_type (place_of b)))
    (ap (λ o. (is_some o && is_some (told_type scene.names b)) && is_none (both_types operator o (told_type scene.names b))) first
    ∙ ap (λ o. (is_some (Some s) && is_some o) && is_none (both_types operator (Some s) o)) second
    ∙ ap is_none e)

pointer-none : (operator : CBin) (s t : CType) → is_comparison operator || is_sum operator ≡ false → s.pointer ≡ true → binary_type operator s t ≡ None
pointer-none operator s t other p = elim t.pointer as (λ q. t.pointer ≡ q → binary_type operator s t ≡ None) [
  | true ↦ λ q. rw p (rw q (rw (or-left (is_comparison operator) (is_sum operator) other) refl))
  | false ↦ λ q. rw p (rw q (rw (or-right (is_comparison operator) (is_sum operator) other) refl))
] refl

-- an operator that neither compares nor adds takes numbers
plain-numbers : (operator : CBin) (s t type : CType) → is_comparison operator || is_sum operator ≡ false → binary_type operator s t ≡ Some type →
    (s.pointer ≡ false) × (t.pointer ≡ false)
plain-numbers operator s t type other e = elim s.pointer as (λ p. s.pointer ≡ p → (p ≡ false) × (t.pointer ≡ false)) [
  | true ↦ λ p. absurd (no-some (sym (pointer-none operator s t other p) ∙ e))
  | false ↦ λ p. elim t.pointer as (λ q. t.pointer ≡ q → (false ≡ false) × (q ≡ false)) [
    | true ↦ λ q. absurd (no-some (sym (rw p (rw q refl)) ∙ e))
    | false ↦ λ q. (refl, refl)
  ] refl
] refl

binary-clean : (scene : BodyContext) (operator : CBin) (a b : PartialExpr) (s t type : CType) → IsClean scene a s → IsClean scene b t →
    binary_type operator s t ≡ Some type → IsClean scene (BinaryOf operator a b) type
binary-clean scene operator a b s t type c d e =
    let own : binary_offences scene operator a b ≡ [] = elim (is_comparison operator || is_sum operator) as (λ q. is_comparison operator || is_sum operator ≡ q →
    (if q then second_offends scene operator a b else wants_number scene a ++ wants_number scene b) ≡ []) [
      | true ↦ λ _. second-clean scene operator a b s t type c.told d.told e
      | false ↦ λ other. let numbers = plain-numbers operator s t type other e in
          both-empty (no-number scene a s c.told numbers.0) (no-number scene b t d.told numbers.1)
    ] refl in
    clean scene (BinaryOf operator a b) type (both-empty c.none (both-empty d.none own))
    (ap (λ o. both_types operator o (told_type scene.names b)) c.told ∙ ap (both_types operator (Some s)) d.told ∙ e)

arms-some : (o q : Option CType) (type : CType) → both_arms_type o q ≡ Some type → (a : CType) × (b : CType) × (o ≡ Some a) × (q ≡ Some b) × (arms_type a b ≡ Some type)
arms-some (Some a) (Some b) type e = (a, b, refl, refl, e)
arms-some (Some a) None type e = absurd cc
arms-some None q type e = absurd cc

tested-some : (o q : Option CType) (type : CType) → tested_type o q ≡ Some type → (a : CType) × (o ≡ Some a) × (a.pointer ≡ false) × (q ≡ Some type)
tested-some None q type e = absurd cc
tested-some (Some a) q type e = elim a.pointer as (λ p. a.pointer ≡ p → (if p then None else q) ≡ Some type → (x : CType) × (Some a ≡ Some x) × (x.pointer ≡ false) × (q ≡ Some type)) [
  | true ↦ λ _ bad. absurd (no-some bad)
  | false ↦ λ p is. (a, refl, p, is)
] refl e

conditional-clean : (scene : BodyContext) (a b c : PartialExpr) (r s t type : CType) → IsClean scene a r → r.pointer ≡ false → IsClean scene b s → IsClean scene c t →
    arms_type s t ≡ Some type → IsClean scene (ConditionalOf a b c) type
conditional-clean scene a b c r s t type x p y z e =
    let arms : arms_offences scene b c ≡ [] = ap (λ q. only_if q (offence of_type (place_of c)))
    (ap (λ o. (is_some o && is_some (told_type scene.names c)) && is_none (both_arms_type o (told_type scene.names c))) y.told
    ∙ ap (λ o. (is_some (Some s) && is_some o) && is_none (both_arms_type (Some s) o)) z.told
    ∙ ap is_none e) in
    clean scene (ConditionalOf a b c) type
    (both-empty x.none (both-empty y.none (both-empty z.none (both-empty (no-number scene a r x.told p) arms))))
    (ap (λ o. both_arms_type o (told_type scene.names c)) y.told ∙ ap (both_arms_type (Some s)) z.told ∙ e)

cast-some : (to : CType) (o : Option CType) (type : CType) → option_map (λ from. to) o ≡ Some type → (from : CType) × (o ≡ Some from) × (Some to ≡ Some type)
cast-some to None type e = absurd cc
cast-some to (Some from) type e = (from, refl, e)

-- In a complete expression that has a type nothing offends, and the type is told.
pub expr-clean : (scene : BodyContext) (e : PartialExpr) (type : CType) → is_complete_expr e ≡ true → type_of scene.names (plain_expr e) ≡ Some type → IsClean scene e type
expr-clean scene Missing type whole e = absurd cc
expr-clean scene (NumberHere at n base) type whole e = clean scene (NumberHere at n base) type refl e
expr-clean scene (NameHere at word called) type whole e = name-clean scene at word called type e
expr-clean scene (UnaryHere at AddressOf Missing) type whole e = absurd cc
expr-clean scene (UnaryHere at AddressOf (NameHere place word called)) type whole e =
    let found = then-some type_of_address (declared_as scene.names word) type e in
    clean scene (UnaryHere at AddressOf (NameHere place word called)) type
    (ap (λ o. elim o [ Some d ↦ only_if (is_none (type_of_address d)) (offence of_type place) | None ↦ value_offences scene place word called ++ only_if (is_some (told_type scene.names (NameHere place word called))) (offence of_type place) ]) found.1
    ∙ ap (λ o. only_if (is_none o) (offence of_type place)) found.2) e
expr-clean scene (UnaryHere at AddressOf (NumberHere place n base)) type whole e = absurd cc
expr-clean scene (UnaryHere at AddressOf (UnaryHere place operator a)) type whole e = absurd cc
expr-clean scene (UnaryHere at AddressOf (BinaryOf operator a b)) type whole e = absurd cc
expr-clean scene (UnaryHere at AddressOf (ConditionalOf a b c)) type whole e = absurd cc
expr-clean scene (UnaryHere at AddressOf (CastHere place to a)) type whole e = absurd cc
expr-clean scene (UnaryHere at Minus a) type whole e =
    let found = then-some (unary_type Minus) (type_of scene.names (plain_expr a)) type e in
    let c = expr-clean scene a found.0 whole found.1 in
    number-clean scene at Minus a type found.0 c found.2 refl refl (no-number scene a found.0 c.told (number-of Minus found.0 type found.2 (λ bad. absurd cc)))
expr-clean scene (UnaryHere at Complement a) type whole e =
    let found = then-some (unary_type Complement) (type_of scene.names (plain_expr a)) type e in
    let c = expr-clean scene a found.0 whole found.1 in
    number-clean scene at Complement a type found.0 c found.2 refl refl (no-number scene a found.0 c.told (number-of Complement found.0 type found.2 (λ bad. absurd cc)))
expr-clean scene (UnaryHere at Not a) type whole e =
    let found = then-some (unary_type Not) (type_of scene.names (plain_expr a)) type e in
    let c = expr-clean scene a found.0 whole found.1 in
    number-clean scene at Not a type found.0 c found.2 refl refl (no-number scene a found.0 c.told (number-of Not found.0 type found.2 (λ bad. absurd cc)))
expr-clean scene (UnaryHere at Deref a) type whole e =
    let found = then-some (unary_type Deref) (type_of scene.names (plain_expr a)) type e in
    let c = expr-clean scene a found.0 whole found.1 in
    number-clean scene at Deref a type found.0 c found.2 refl refl (pointed-clean scene a found.0 type c found.2)
expr-clean scene (BinaryOf operator a b) type whole e =
    let parts = and-both (is_complete_expr a) (is_complete_expr b) whole in
    let found = both-some operator (type_of scene.names (plain_expr a)) (type_of scene.names (plain_expr b)) type e in
    binary-clean scene operator a b found.0 found.1 type (expr-clean scene a found.0 parts.0 found.2) (expr-clean scene b found.1 parts.1 found.3) found.4
expr-clean scene (ConditionalOf a b c) type whole e =
    let parts = and-both (is_complete_expr a) (is_complete_expr b && is_complete_expr c) whole in
    let others = and-both (is_complete_expr b) (is_complete_expr c) parts.1 in
    let test = tested-some (type_of scene.names (plain_expr a)) (both_arms_type (type_of scene.names (plain_expr b)) (type_of scene.names (plain_expr c))) type e in
    let arms = arms-some (type_of scene.names (plain_expr b)) (type_of scene.names (plain_expr c)) type test.3 in
    conditional-clean scene a b c test.0 arms.0 arms.1 type (expr-clean scene a test.0 parts.0 test.1) test.2
    (expr-clean scene b arms.0 others.0 arms.2) (expr-clean scene c arms.1 others.1 arms.3) arms.4
expr-clean scene (CastHere at to a) type whole e =
    let found = cast-some to (type_of scene.names (plain_expr a)) type e in
    let c = expr-clean scene a found.0 whole found.1 in
    clean scene (CastHere at to a) type c.none found.2
