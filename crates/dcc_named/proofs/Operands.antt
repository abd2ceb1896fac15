-- Operands: what has a type is made of what has one, and equal operands give equal values.
use Rattle.std.proofs.Common.{◌≡◌, ℕ, Bool, true, false, not, List, Option, Some, None, refl, ap, ap₂, ◌∙◌}
use Rattle.std.specs.Prelude.{if◌then◌else◌, option_map, option_and_then}
use Rattle.dcc_c.specs.declared.syntax.Base.{Base}
use Rattle.dcc_c.specs.declared.syntax.CType.{CType}
use Rattle.dcc_c.specs.declared.syntax.CBin.{CBin}
use Rattle.dcc_c.specs.declared.syntax.CBin.TheVariants.{OrOr, AndAnd, Or, Xor, And, Eq, Ne, Lt, Le, Gt, Ge, Shl, Shr, Add, Sub, Mul, Div, Rem}
use Rattle.dcc_c.specs.Types.{plain}
use Rattle.dcc_c.specs.Tree.{Expr, Binary}
use Rattle.dcc_c.specs.Typing.{Declared, binary_type, both_types, both_arms_type, arms_type, tested_type, type_of}
use Rattle.dcc_c.specs.Rules.{is_number}
use Rattle.dcc_c.specs.Value.{Gives, and_then, is_zero, truth_value, both_values, Scope, value_of}

pub some-same : {A : Type 0} {a b : A} → Some a ≡ Some b → a ≡ b
some-same e = cc

-- Types.

-- what is made of a type is made of one
pub operand-has : (f : CType → Option CType) (o : Option CType) (t : CType) → option_and_then f o ≡ Some t → (u : CType) × (o ≡ Some u) × (f u ≡ Some t)
operand-has f (Some u) t is = (u, refl, is)
operand-has f None t is = absurd cc

pub cast-has : (type : CType) (o : Option CType) (t : CType) → option_map (λ from. type) o ≡ Some t → (u : CType) × (o ≡ Some u) × (type ≡ t)
cast-has type (Some u) t is = (u, refl, some-same is)
cast-has type None t is = absurd cc

pub both-have : (operator : CBin) (o p : Option CType) (t : CType) → both_types operator o p ≡ Some t → (u v : CType) × (o ≡ Some u) × (p ≡ Some v) × (binary_type operator u v ≡ Some t)
both-have operator (Some u) (Some v) t is = (u, v, refl, refl, is)
both-have operator (Some u) None t is = absurd cc
both-have operator None p t is = absurd cc

no-arms : (pointer : Bool) (t : CType) → (if pointer then None else None) ≡ Some t → ⊥
no-arms true t is = absurd cc
no-arms false t is = absurd cc

pub three-have : (o p q : Option CType) (t : CType) → tested_type o (both_arms_type p q) ≡ Some t → (test u v : CType) × (o ≡ Some test) × (p ≡ Some u) × (q ≡ Some v) × (tested_type (Some test) (arms_type u v) ≡ Some t)
three-have (Some test) (Some u) (Some v) t is = (test, u, v, refl, refl, refl, is)
three-have (Some test) (Some u) None t is = absurd (no-arms test.pointer t is)
three-have (Some test) None q t is = absurd (no-arms test.pointer t is)
three-have None p q t is = absurd cc

pub plain-is : (t : CType) → t.pointer ≡ false → t ≡ plain t.base
plain-is t is = ap (λ p. record { base = t.base; pointer = p }) is

pub pointer-is : (t : CType) → t.pointer ≡ true → t ≡ record { base = t.base; pointer = true }
pointer-is t is = ap (λ p. record { base = t.base; pointer = p }) is

not-true : (b : Bool) → not b ≡ true → b ≡ false
not-true false is = refl
not-true true is = absurd cc

told-number : (o : Option CType) → elim o [ Some type ↦ not type.pointer | None ↦ false ] ≡ true → (b : Base) × (o ≡ Some (plain b))
told-number (Some type) is = (type.base, ap Some (plain-is type (not-true type.pointer is)))
told-number None is = absurd cc

pub number-typed : (names : List Declared) (e : Expr) → is_number names e ≡ true → (b : Base) × (type_of names e ≡ Some (plain b))
number-typed names e is = told-number (type_of names e) is

-- Values.

pub binary-same : (scope : Scope) (operator : CBin) (a b g h : Expr) → value_of scope g ≡ value_of scope a → value_of scope h ≡ value_of scope b → value_of scope (Binary operator g h) ≡ value_of scope (Binary operator a b)
binary-same scope OrOr a b g h first second = ap₂ (λ x y. and_then (λ v. if is_zero v then and_then truth_value y else Gives v) (and_then truth_value x)) first second
binary-same scope AndAnd a b g h first second = ap₂ (λ x y. and_then (λ v. if is_zero v then Gives v else and_then truth_value y) (and_then truth_value x)) first second
binary-same scope Or a b g h first second = ap₂ (λ x y. and_then (λ v. and_then (both_values Or v) y) x) first second
binary-same scope Xor a b g h first second = ap₂ (λ x y. and_then (λ v. and_then (both_values Xor v) y) x) first second
binary-same scope And a b g h first second = ap₂ (λ x y. and_then (λ v. and_then (both_values And v) y) x) first second
binary-same scope Eq a b g h first second = ap₂ (λ x y. and_then (λ v. and_then (both_values Eq v) y) x) first second
binary-same scope Ne a b g h first second = ap₂ (λ x y. and_then (λ v. and_then (both_values Ne v) y) x) first second
binary-same scope Lt a b g h first second = ap₂ (λ x y. and_then (λ v. and_then (both_values Lt v) y) x) first second
binary-same scope Le a b g h first second = ap₂ (λ x y. and_then (λ v. and_then (both_values Le v) y) x) first second
binary-same scope Gt a b g h first second = ap₂ (λ x y. and_then (λ v. and_then (both_values Gt v) y) x) first second
binary-same scope Ge a b g h first second = ap₂ (λ x y. and_then (λ v. and_then (both_values Ge v) y) x) first second
binary-same scope Shl a b g h first second = ap₂ (λ x y. and_then (λ v. and_then (both_values Shl v) y) x) first second
binary-same scope Shr a b g h first second = ap₂ (λ x y. and_then (λ v. and_then (both_values Shr v) y) x) first second
binary-same scope Add a b g h first second = ap₂ (λ x y. and_then (λ v. and_then (both_values Add v) y) x) first second
binary-same scope Sub a b g h first second = ap₂ (λ x y. and_then (λ v. and_then (both_values Sub v) y) x) first second
binary-same scope Mul a b g h first second = ap₂ (λ x y. and_then (λ v. and_then (both_values Mul v) y) x) first second
binary-same scope Div a b g h first second = ap₂ (λ x y. and_then (λ v. and_then (both_values Div v) y) x) first second
binary-same scope Rem a b g h first second = ap₂ (λ x y. and_then (λ v. and_then (both_values Rem v) y) x) first second
