-- An expression that has a type has a value of it, or a division in it faults.
use Rattle.std.proofs.Common.{◌≡◌, ℕ, Bool, true, false, List, [], ◌∷◌, map, Option, Some, None, refl, sym, ap, ◌∙◌, subst}
use Rattle.std.specs.Prelude.{not, if◌then◌else◌, option_map, option_and_then}
use Rattle.dcc_c.specs.declared.syntax.Base.{Base}
use Rattle.dcc_c.specs.declared.syntax.Base.TheVariants.{Int, Uint}
use Rattle.dcc_c.specs.declared.syntax.CType.{CType}
use Rattle.dcc_c.specs.declared.syntax.CUn.{CUn}
use Rattle.dcc_c.specs.declared.syntax.CUn.TheVariants.{Minus, Complement, Not, Deref, AddressOf}
use Rattle.dcc_c.specs.declared.syntax.CBin.{CBin}
use Rattle.dcc_c.specs.declared.syntax.CBin.TheVariants.{OrOr, AndAnd, Eq, Ne, Lt, Le, Gt, Ge, Add, Sub, Div, Rem}
use Rattle.dcc_c.specs.Token.{same_bytes}
use Rattle.dcc_c.specs.Types.{plain, pointer_to, common_type, same_type}
use Rattle.dcc_c.specs.Tree.{Word, Expr, Number, Name, Unary, Binary, Conditional, Cast}
use Rattle.dcc_c.specs.Typing.{declared_as, type_of_name, type_of_address, unary_type, binary_type, numbers_type, is_comparison, is_sum, both_types, arms_type, both_arms_type, tested_type, type_of}
use Rattle.dcc_c.specs.Value.{Value, value, number, is_zero, converted, Outcome, Gives, Divides, Undefined, and_then, given, Storage, Unplaced, PlacedAt, Binding, is_placed, declared_by, variable_in, Scope, array_value, held, variable_value, address_value, pointed_value, unary_value, numbers_value, compared, moved, both_values, truth_value, chosen, value_of}

-- the evaluation gives a value of the type, or a division faults
abbrev pub IsOf : CType → Outcome Value → Type 0
IsOf type (Gives v) = v.type ≡ type
IsOf type Divides = Unit {0}
IsOf type Undefined = ⊥

-- arrays have places
abbrev pub ArePlaced : List Binding → Type 0
ArePlaced [] = Unit {0}
ArePlaced (b ∷ variables) = (b.is_array ≡ true → is_placed b.storage ≡ true) × ArePlaced variables

-- a second evaluation of a value of the type
then-is : (o : Outcome Value) (first type : CType) (next : Value → Outcome Value) → IsOf first o → ((v : Value) → v.type ≡ first → IsOf type (next v)) → IsOf type (and_then next o)
then-is (Gives v) first type next is rest = rest v is
then-is Divides first type next is rest = tt
then-is Undefined first type next is rest = absurd is

some-is : {a b : CType} → Some a ≡ Some b → a ≡ b
some-is e = cc

-- Names.

held-is : (memory : List ℕ) (type : CType) (storage : Storage) → (held memory type storage).type ≡ type
held-is memory type (Unplaced bits) = refl
held-is memory type (PlacedAt at) = refl

array-is : (base : Base) (pointer : Bool) (storage : Storage) (t : CType) → is_placed storage ≡ true →
    (if pointer then None else Some (pointer_to base)) ≡ Some t → IsOf t (array_value (record { base = base; pointer = pointer }) storage)
array-is base true storage t placed e = absurd cc
array-is base false (Unplaced bits) t placed e = absurd cc
array-is base false (PlacedAt at) t placed e = some-is e

name-is : (memory : List ℕ) (type : CType) (array : Bool) (storage : Storage) (t : CType) → (array ≡ true → is_placed storage ≡ true) →
    (if not array then Some type else if type.pointer then None else Some (pointer_to type.base)) ≡ Some t →
    IsOf t (if array then array_value type storage else Gives (held memory type storage))
name-is memory type true storage t placed e = array-is type.base type.pointer storage t (placed refl) e
name-is memory type false storage t placed e = held-is memory type storage ∙ some-is e

address-is : (base : Base) (pointer array : Bool) (storage : Storage) (t : CType) →
    (if not (is_placed storage) then None else if array then None else if pointer then None else Some (pointer_to base)) ≡ Some t →
    IsOf t (if array then Undefined else if pointer then Undefined else elim storage [ PlacedAt at ↦ Gives (value (pointer_to base) at) | Unplaced bits ↦ Undefined ])
address-is base pointer array (Unplaced bits) t e = absurd cc
address-is base pointer true (PlacedAt at) t e = absurd cc
address-is base true false (PlacedAt at) t e = absurd cc
address-is base false false (PlacedAt at) t e = some-is e

variable-is : (memory : List ℕ) (variables : List Binding) (word : Word) (t : CType) → ArePlaced variables →
    option_and_then type_of_name (declared_as (map declared_by variables) word) ≡ Some t →
    IsOf t (and_then (variable_value memory) (given (variable_in variables word)))
variable-is memory [] word t placed e = absurd cc
variable-is memory (b ∷ variables) word t placed e =
    elim (same_bytes b.name word) as (λ same. option_and_then type_of_name (if same then Some (declared_by b) else declared_as (map declared_by variables) word) ≡ Some t → IsOf t (and_then (variable_value memory) (given (if same then Some b else variable_in variables word)))) [
      | true ↦ λ here. name-is memory b.type b.is_array b.storage t placed.0 here
      | false ↦ λ later. variable-is memory variables word t placed.1 later
    ] e

variable_address-is : (variables : List Binding) (word : Word) (t : CType) →
    option_and_then type_of_address (declared_as (map declared_by variables) word) ≡ Some t →
    IsOf t (and_then address_value (given (variable_in variables word)))
variable_address-is [] word t e = absurd cc
variable_address-is (b ∷ variables) word t e =
    elim (same_bytes b.name word) as (λ same. option_and_then type_of_address (if same then Some (declared_by b) else declared_as (map declared_by variables) word) ≡ Some t → IsOf t (and_then address_value (given (if same then Some b else variable_in variables word)))) [
      | true ↦ λ here. address-is b.type.base b.type.pointer b.is_array b.storage t here
      | false ↦ λ later. variable_address-is variables word t later
    ] e

-- Operators.

divided-is : (faults : Bool) (type : Base) (n : ℕ) → IsOf (plain type) (if faults then Divides else Gives (number type n))
divided-is true type n = tt
divided-is false type n = refl

compared-is : (operator : CBin) (a b : ℕ) → is_comparison operator ≡ true → IsOf (plain Int) (compared operator Uint a b)
compared-is Eq a b is = refl
compared-is Ne a b is = refl
compared-is Lt a b is = refl
compared-is Le a b is = refl
compared-is Gt a b is = refl
compared-is Ge a b is = refl
compared-is _ a b is = absurd cc

moved-is : (operator : CBin) (type : CType) (at : ℕ) (b : Base) (n : ℕ) → is_sum operator ≡ true → IsOf type (moved operator type at b n)
moved-is Add type at b n is = refl
moved-is Sub type at b n is = refl
moved-is _ type at b n is = absurd cc

-- the operator evaluates both operands
is_eager : CBin → Bool
is_eager OrOr = false
is_eager AndAnd = false
is_eager _ = true

eager-numbers : (operator : CBin) (a : Base) (m : ℕ) (b : Base) (n : ℕ) → is_eager operator ≡ true → IsOf (plain (numbers_type operator a b)) (numbers_value operator a m b n)
unfolding is_eager
eager-numbers OrOr a m b n is = absurd cc
eager-numbers AndAnd a m b n is = absurd cc
eager-numbers Div a m b n is = divided-is _ (common_type a b) _
eager-numbers Rem a m b n is = divided-is _ (common_type a b) _
eager-numbers _ a m b n is = refl

both-are : (operator : CBin) (a : Base) (p : Bool) (m : ℕ) (b : Base) (q : Bool) (n : ℕ) (t : CType) → is_eager operator ≡ true →
    binary_type operator (record { base = a; pointer = p }) (record { base = b; pointer = q }) ≡ Some t →
    IsOf t (both_values operator (value (record { base = a; pointer = p }) m) (value (record { base = b; pointer = q }) n))
both-are operator a false m b false n t eager e =
    subst (λ type. IsOf type (numbers_value operator a m b n)) (some-is e) (eager-numbers operator a m b n eager)
both-are operator a false m b true n t eager e = absurd cc
both-are operator a true m b false n t eager e =
    elim (is_sum operator) as (λ sum. is_sum operator ≡ sum → (if sum then Some (pointer_to a) else None) ≡ Some t → IsOf t (moved operator (pointer_to a) m b n)) [
      | true ↦ λ sum is. subst (λ type. IsOf type (moved operator (pointer_to a) m b n)) (some-is is) (moved-is operator (pointer_to a) m b n sum)
      | false ↦ λ sum is. absurd cc
    ] refl e
both-are operator a true m b true n t eager e =
    elim (is_comparison operator) as (λ comparison. is_comparison operator ≡ comparison → (if comparison then (if same_type (pointer_to a) (pointer_to b) then Some (plain Int) else None) else None) ≡ Some t → IsOf t (if same_type (pointer_to a) (pointer_to b) then compared operator Uint m n else Undefined)) [
      | true ↦ λ comparison is. pointers (same_type (pointer_to a) (pointer_to b)) comparison is
      | false ↦ λ comparison is. absurd cc
    ] refl e
  where
    pointers : (same : Bool) → is_comparison operator ≡ true → (if same then Some (plain Int) else None) ≡ Some t → IsOf t (if same then compared operator Uint m n else Undefined)
    pointers true comparison is = subst (λ type. IsOf type (compared operator Uint m n)) (some-is is) (compared-is operator m n comparison)
    pointers false comparison is = absurd cc

operator-is : (operator : CBin) (v w : Value) (t : CType) → is_eager operator ≡ true → binary_type operator v.type w.type ≡ Some t → IsOf t (both_values operator v w)
operator-is operator v w t eager e =
    both-are operator v.type.base v.type.pointer v.bits w.type.base w.type.pointer w.bits t eager e

-- the types of both operands of an operator that has a type
record Both (operator : CBin) (first second : Option CType) (t : CType) : Type 0 where
  a : CType
  b : CType
  left : first ≡ Some a
  right : second ≡ Some b
  gives : binary_type operator a b ≡ Some t

both-have : (operator : CBin) (first second : Option CType) (t : CType) → both_types operator first second ≡ Some t → Both operator first second t
both-have operator (Some a) (Some b) t e = record { a = a; b = b; left = refl; right = refl; gives = e }
both-have operator (Some a) None t e = absurd cc
both-have operator None second t e = absurd cc

pair-is : (operator : CBin) (u v : Outcome Value) (a b t : CType) → is_eager operator ≡ true → IsOf a u → IsOf b v → binary_type operator a b ≡ Some t → IsOf t (and_then (λ x. and_then (both_values operator x) v) u)
pair-is operator u v a b t eager first second e =
    then-is u a t (λ x. and_then (both_values operator x) v) first (λ x is. then-is v b t (both_values operator x) second (λ y also. operator-is operator x y t eager (subst (λ p. binary_type operator p y.type ≡ Some t) (sym is) (subst (λ q. binary_type operator a q ≡ Some t) (sym also) e))))

-- `||` and `&&` take numbers
numbers-alone : (operator : CBin) (a b t : CType) → is_sum operator ≡ false → is_comparison operator ≡ false → binary_type operator a b ≡ Some t →
    (a.pointer ≡ false) × (b.pointer ≡ false) × (t ≡ plain (numbers_type operator a.base b.base))
numbers-alone operator a b t no_sum no_comparison e = alone a.pointer b.pointer e
  where
    alone : (p q : Bool) → (if p then (if q then (if is_comparison operator then (if same_type a b then Some (plain Int) else None) else None) else if is_sum operator then Some a else None) else if q then None else Some (plain (numbers_type operator a.base b.base))) ≡ Some t →
        (p ≡ false) × (q ≡ false) × (t ≡ plain (numbers_type operator a.base b.base))
    alone false false is = (refl, refl, sym (some-is is))
    alone false true is = absurd cc
    alone true false is = absurd cc
    alone true true is = absurd cc

truth-is : (v : Value) (a : CType) → a.pointer ≡ false → v.type ≡ a → IsOf (plain Int) (truth_value v)
truth-is v a number_is is = let no : v.type.pointer ≡ false = ap (λ t. t.pointer) is ∙ number_is in rw no refl

truths-are : (o : Outcome Value) (a : CType) → a.pointer ≡ false → IsOf a o → IsOf (plain Int) (and_then truth_value o)
truths-are o a number_is is = then-is o a (plain Int) truth_value is (λ v same. truth-is v a number_is same)

or-is : (first second : Outcome Value) → IsOf (plain Int) first → IsOf (plain Int) second → IsOf (plain Int) (and_then (λ v. if is_zero v then second else Gives v) first)
or-is (Gives v) second is also =
    elim (is_zero v) as (λ zero. IsOf (plain Int) (if zero then second else Gives v)) [ true ↦ also | false ↦ is ]
or-is Divides second is also = tt
or-is Undefined second is also = absurd is

and-is : (first second : Outcome Value) → IsOf (plain Int) first → IsOf (plain Int) second → IsOf (plain Int) (and_then (λ v. if is_zero v then Gives v else second) first)
and-is (Gives v) second is also =
    elim (is_zero v) as (λ zero. IsOf (plain Int) (if zero then Gives v else second)) [ true ↦ is | false ↦ also ]
and-is Divides second is also = tt
and-is Undefined second is also = absurd is

-- the type of the operand of an operator that has a type
record One (f : CType → Option CType) (operand : Option CType) (t : CType) : Type 0 where
  a : CType
  has : operand ≡ Some a
  gives : f a ≡ Some t

one-has : (f : CType → Option CType) (operand : Option CType) (t : CType) → option_and_then f operand ≡ Some t → One f operand t
one-has f (Some a) t e = record { a = a; has = refl; gives = e }
one-has f None t e = absurd cc

-- the operator takes a number
takes_number : CUn → Bool
takes_number Deref = false
takes_number AddressOf = false
takes_number _ = true

unary-of : (operator : CUn) (base : Base) (pointer : Bool) (bits : ℕ) (t : CType) → takes_number operator ≡ true →
    unary_type operator (record { base = base; pointer = pointer }) ≡ Some t → IsOf t (unary_value operator (value (record { base = base; pointer = pointer }) bits))
unfolding takes_number
unary-of Minus base false bits t is e = some-is e
unary-of Complement base false bits t is e = some-is e
unary-of Not base false bits t is e = some-is e
unary-of Minus base true bits t is e = absurd cc
unary-of Complement base true bits t is e = absurd cc
unary-of Not base true bits t is e = absurd cc
unary-of Deref base pointer bits t is e = absurd cc
unary-of AddressOf base pointer bits t is e = absurd cc

unary-is : (operator : CUn) (v : Value) (a t : CType) → takes_number operator ≡ true → v.type ≡ a → unary_type operator a ≡ Some t → IsOf t (unary_value operator v)
unary-is operator v a t number_is is e =
    unary-of operator v.type.base v.type.pointer v.bits t number_is (subst (λ p. unary_type operator p ≡ Some t) (sym is) e)

pointed-of : (memory : List ℕ) (base : Base) (pointer : Bool) (bits : ℕ) (t : CType) → (if pointer then Some (plain base) else None) ≡ Some t → IsOf t (pointed_value memory (value (record { base = base; pointer = pointer }) bits))
pointed-of memory base true bits t e = some-is e
pointed-of memory base false bits t e = absurd cc

pointed-is : (memory : List ℕ) (v : Value) (a t : CType) → v.type ≡ a → (if a.pointer then Some (plain a.base) else None) ≡ Some t → IsOf t (pointed_value memory v)
pointed-is memory v a t is e =
    pointed-of memory v.type.base v.type.pointer v.bits t (subst (λ (p : CType). (if p.pointer then Some (plain p.base) else None) ≡ Some t) (sym is) e)

-- the types of the operands of `?:`
record Three (test first second : Option CType) (t : CType) : Type 0 where
  a : CType
  b : CType
  c : CType
  tested : test ≡ Some a
  is_number : a.pointer ≡ false
  left : first ≡ Some b
  right : second ≡ Some c
  gives : both_arms_type first second ≡ Some t

three-have : (test first second : Option CType) (t : CType) → tested_type test (both_arms_type first second) ≡ Some t → Three test first second t
three-have (Some a) (Some b) (Some c) t e = tested a.pointer refl e
  where
    tested : (p : Bool) → a.pointer ≡ p → (if p then None else arms_type b c) ≡ Some t → Three (Some a) (Some b) (Some c) t
    tested false is gives =
        record { a = a; b = b; c = c; tested = refl; is_number = is; left = refl; right = refl; gives = gives }
    tested true is gives = absurd cc
three-have (Some a) (Some b) None t e = none a.pointer e
  where
    none : (p : Bool) → (if p then None else None) ≡ Some t → Three (Some a) (Some b) None t
    none true is = absurd cc
    none false is = absurd cc
three-have (Some a) None second t e = none a.pointer e
  where
    none : (p : Bool) → (if p then None else None) ≡ Some t → Three (Some a) None second t
    none true is = absurd cc
    none false is = absurd cc
three-have None first second t e = absurd cc

chosen-is : (type : Option CType) (first second : Outcome Value) (a b c t : CType) (v : Value) → type ≡ Some t → a.pointer ≡ false → v.type ≡ a → IsOf b first → IsOf c second → IsOf t (chosen type first second v)
chosen-is (Some type) first second a b c t v same number_is is one two =
    let no : v.type.pointer ≡ false = ap (λ p. p.pointer) is ∙ number_is in
    let convert : Value → Outcome Value = λ w. Gives (converted type w) in
    let either : IsOf t (and_then convert (if is_zero v then second else first)) =
    elim (is_zero v) as (λ zero. IsOf t (and_then convert (if zero then second else first))) [
      | true ↦ then-is second c t convert two (λ w also. some-is same)
      | false ↦ then-is first b t convert one (λ w also. some-is same)
    ] in
    rw no either
chosen-is None first second a b c t v same number_is is one two = absurd cc

-- an expression that has a type has a value of it, or a division in it faults
module _ (scope : Scope) (placed : ArePlaced scope.variables) where
  pub typed-has_value : (e : Expr) (t : CType) → type_of (map declared_by scope.variables) e ≡ Some t → IsOf t (value_of scope e)
  unfolding is_eager takes_number
  typed-has_value (Number n base) t is = some-is is
  typed-has_value (Name word) t is = variable-is scope.memory scope.variables word t placed is
  typed-has_value (Unary AddressOf (Name word)) t is = variable_address-is scope.variables word t is
  typed-has_value (Unary AddressOf a) t is = absurd cc
  typed-has_value (Unary Deref a) t is =
      let h = one-has (unary_type Deref) (type_of (map declared_by scope.variables) a) t is in
      then-is (value_of scope a) h.a t (pointed_value scope.memory) (typed-has_value a h.a h.has) (λ v same. pointed-is scope.memory v h.a t same h.gives)
  typed-has_value (Unary operator a) t is =
      let h = one-has (unary_type operator) (type_of (map declared_by scope.variables) a) t is in
      then-is (value_of scope a) h.a t (unary_value operator) (typed-has_value a h.a h.has) (λ v same. unary-is operator v h.a t refl same h.gives)
  typed-has_value (Binary OrOr a b) t is =
      let h = both-have OrOr (type_of (map declared_by scope.variables) a) (type_of (map declared_by scope.variables) b) t is in
      let n = numbers-alone OrOr h.a h.b t refl refl h.gives in
      subst (λ type. IsOf type (value_of scope (Binary OrOr a b))) (sym n.2) (or-is _ _ (truths-are (value_of scope a) h.a n.0 (typed-has_value a h.a h.left)) (truths-are (value_of scope b) h.b n.1 (typed-has_value b h.b h.right)))
  typed-has_value (Binary AndAnd a b) t is =
      let h = both-have AndAnd (type_of (map declared_by scope.variables) a) (type_of (map declared_by scope.variables) b) t is in
      let n = numbers-alone AndAnd h.a h.b t refl refl h.gives in
      subst (λ type. IsOf type (value_of scope (Binary AndAnd a b))) (sym n.2) (and-is _ _ (truths-are (value_of scope a) h.a n.0 (typed-has_value a h.a h.left)) (truths-are (value_of scope b) h.b n.1 (typed-has_value b h.b h.right)))
  typed-has_value (Binary operator a b) t is =
      let h = both-have operator (type_of (map declared_by scope.variables) a) (type_of (map declared_by scope.variables) b) t is in
      pair-is operator (value_of scope a) (value_of scope b) h.a h.b t refl (typed-has_value a h.a h.left) (typed-has_value b h.b h.right) h.gives
  typed-has_value (Conditional a b c) t is =
      let names = map declared_by scope.variables in
      let h = three-have (type_of names a) (type_of names b) (type_of names c) t is in
      then-is (value_of scope a) h.a t (chosen (both_arms_type (type_of names b) (type_of names c)) (value_of scope b) (value_of scope c)) (typed-has_value a h.a h.tested) (λ v same. chosen-is _ (value_of scope b) (value_of scope c) h.a h.b h.c t v h.gives h.is_number same (typed-has_value b h.b h.left) (typed-has_value c h.c h.right))
  typed-has_value (Cast type a) t is =
      let h = one-has (λ from. Some type) (type_of (map declared_by scope.variables) a) t (cast-of (type_of (map declared_by scope.variables) a) is) in
      then-is (value_of scope a) h.a t (λ v. Gives (converted type v)) (typed-has_value a h.a h.has) (λ v same. some-is h.gives)
    where
      cast-of : (o : Option CType) → option_map (λ from. type) o ≡ Some t → option_and_then (λ from. Some type) o ≡ Some t
      cast-of (Some from) e = e
      cast-of None e = e
