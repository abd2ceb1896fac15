-- Comparisons and their opposites.
use Rattle.std.proofs.Common.{◌≡◌, ℕ, Bool, true, false, Some, None, refl, sym, ap, ◌∙◌, subst}
use Rattle.std.specs.Prelude.{not, ◌==◌, if◌then◌else◌, List, map, Option, option_map}
use Rattle.std.specs.Int.{from_bool}
use Rattle.dcc_c.specs.declared.syntax.Base.{Base}
use Rattle.dcc_c.specs.declared.syntax.Base.TheVariants.{Int, Uint}
use Rattle.dcc_c.specs.declared.syntax.CBin.{CBin}
use Rattle.dcc_c.specs.declared.syntax.CBin.TheVariants.{Eq, Ne, Lt, Le, Gt, Ge}
use Rattle.dcc_c.specs.declared.syntax.CType.{CType}
use Rattle.dcc_c.specs.Arithmetic.{is_less}
use Rattle.dcc_c.specs.Types.{plain, same_type, common_type, convert}
use Rattle.dcc_c.specs.Tree.{Expr, Number, Name, Unary, Binary, Conditional, Cast}
use Rattle.dcc_c.specs.Typing.{Declared, type_of, both_types}
use Rattle.dcc_c.specs.Value.{Value, number, truth, Outcome, Gives, Divides, Undefined, and_then, compared, both_values}
use Rattle.dcc_c.specs.Value.{Scope, value_of, declared_by}
use Rattle.dcc_text.specs.Spelled.{opposite_symbol, turned, turned_or}
use Rattle.dcc_text.proofs.Meanings.{IsNumber}

-- two comparisons of which just one is true of two numbers
pub data Opposite : CBin → CBin → Type 0 where
  equal : Opposite Eq Ne
  unequal : Opposite Ne Eq
  less : Opposite Lt Ge
  not_less : Opposite Ge Lt
  not_greater : Opposite Le Gt
  greater : Opposite Gt Le

some-equal : {A : Type 0} {a b : A} → Some a ≡ Some b → a ≡ b
some-equal e = cc

opposite-is : (operator other : CBin) → opposite_symbol operator ≡ Some other → Opposite operator other
opposite-is Eq other is = subst (Opposite Eq) (some-equal is) equal
opposite-is Ne other is = subst (Opposite Ne) (some-equal is) unequal
opposite-is Lt other is = subst (Opposite Lt) (some-equal is) less
opposite-is Ge other is = subst (Opposite Ge) (some-equal is) not_less
opposite-is Le other is = subst (Opposite Le) (some-equal is) not_greater
opposite-is Gt other is = subst (Opposite Gt) (some-equal is) greater
opposite-is operator other is = absurd cc

-- the second expression is the opposite comparison of the operands
pub data IsTurned : Expr → Expr → Type 0 where
  turns : (operator other : CBin) (a b : Expr) → Opposite operator other → IsTurned (Binary operator a b) (Binary other a b)

-- What holds of the opposite comparison, and of what is made of an expression else, holds of the one of both that stands.
pub turned-cases : (P : Expr → Type 0) (make : Expr → Expr) (e : Expr) → P (make e) → ((c : Expr) → IsTurned e c → P c) → P (turned_or make e)
turned-cases P make (Binary operator a b) made opposite = by (opposite_symbol operator) refl
  where
    by : (o : Option CBin) → opposite_symbol operator ≡ o
        → P (elim (option_map (λ other. Binary other a b) o) [ Some c ↦ c | None ↦ make (Binary operator a b) ])
    by None is = made
    by (Some other) is = opposite (Binary other a b) (turns operator other a b (opposite-is operator other is))
turned-cases P make e made opposite = made

-- Values.

-- the evaluations give opposite truth values, or fail alike
data AreOpposite : Outcome Value → Outcome Value → Type 0 where
  truths : (b : Bool) → AreOpposite (Gives (truth b)) (Gives (truth (not b)))
  divides : AreOpposite Divides Divides
  undefined : AreOpposite Undefined Undefined

not-not : (b : Bool) → AreOpposite (Gives (truth (not b))) (Gives (truth b))
not-not true = truths false
not-not false = truths true

compared-apart : {operator other : CBin} → Opposite operator other → (type : Base) (a b : ℕ) → AreOpposite (compared operator type a b) (compared other type a b)
compared-apart equal type a b = truths (a == b)
compared-apart unequal type a b = not-not (a == b)
compared-apart less type a b = truths (is_less type a b)
compared-apart not_less type a b = not-not (is_less type a b)
compared-apart not_greater type a b = not-not (is_less type b a)
compared-apart greater type a b = truths (is_less type b a)

-- of two values, which are no pointers, two pointers of one type, or else undefined
by-pointers : (P : Outcome Value → Outcome Value → Type 0) (first second same : Bool) (p p' n n' : Outcome Value)
    → P Undefined Undefined → P p p' → P n n'
    → P (if first then (if second then (if same then p else Undefined) else Undefined) else if second then Undefined else n)
    (if first then (if second then (if same then p' else Undefined) else Undefined) else if second then Undefined else n')
by-pointers P true true true p p' n n' u x y = x
by-pointers P true true false p p' n n' u x y = u
by-pointers P true false same p p' n n' u x y = u
by-pointers P false true same p p' n n' u x y = u
by-pointers P false false same p p' n n' u x y = y

module _ (v w : Value) where
  abbrev common : Base
  common = common_type v.type.base w.type.base

  abbrev first : ℕ
  first = convert v.type.base common v.bits

  abbrev second : ℕ
  second = convert w.type.base common w.bits

  -- what a comparison of the values comes to
  abbrev comparing : CBin → Outcome Value
  comparing operator =
      if v.type.pointer then (
      if w.type.pointer then (if same_type v.type w.type then compared operator Uint v.bits w.bits else Undefined) else Undefined
      ) else if w.type.pointer then Undefined else compared operator common first second

  comparing-apart : (operator other : CBin) → Opposite operator other → AreOpposite (comparing operator) (comparing other)
  comparing-apart operator other o =
      by-pointers AreOpposite v.type.pointer w.type.pointer (same_type v.type w.type)
      (compared operator Uint v.bits w.bits) (compared other Uint v.bits w.bits)
      (compared operator common first second) (compared other common first second)
      undefined (compared-apart o Uint v.bits w.bits) (compared-apart o common first second)

  both-apart : {operator other : CBin} → Opposite operator other → AreOpposite (both_values operator v w) (both_values other v w)
  both-apart equal = comparing-apart Eq Ne equal
  both-apart unequal = comparing-apart Ne Eq unequal
  both-apart less = comparing-apart Lt Ge less
  both-apart not_less = comparing-apart Ge Lt not_less
  both-apart not_greater = comparing-apart Le Gt not_greater
  both-apart greater = comparing-apart Gt Le greater

outcomes-apart : {operator other : CBin} → Opposite operator other → (x y : Outcome Value)
    → AreOpposite (and_then (λ v. and_then (both_values operator v) y) x) (and_then (λ v. and_then (both_values other v) y) x)
outcomes-apart o (Gives v) (Gives w) = both-apart v w o
outcomes-apart o (Gives v) Divides = divides
outcomes-apart o (Gives v) Undefined = undefined
outcomes-apart o Divides y = divides
outcomes-apart o Undefined y = undefined

values-apart : (scope : Scope) (e c : Expr) → IsTurned e c → AreOpposite (value_of scope e) (value_of scope c)
values-apart scope e c (turns operator other a b equal) = outcomes-apart equal (value_of scope a) (value_of scope b)
values-apart scope e c (turns operator other a b unequal) = outcomes-apart unequal (value_of scope a) (value_of scope b)
values-apart scope e c (turns operator other a b less) = outcomes-apart less (value_of scope a) (value_of scope b)
values-apart scope e c (turns operator other a b not_less) = outcomes-apart not_less (value_of scope a) (value_of scope b)
values-apart scope e c (turns operator other a b not_greater) = outcomes-apart not_greater (value_of scope a) (value_of scope b)
values-apart scope e c (turns operator other a b greater) = outcomes-apart greater (value_of scope a) (value_of scope b)

-- Types.

types-same : {operator other : CBin} → Opposite operator other → (x y : Option CType) → both_types other x y ≡ both_types operator x y
types-same equal (Some x) (Some y) = refl
types-same unequal (Some x) (Some y) = refl
types-same less (Some x) (Some y) = refl
types-same not_less (Some x) (Some y) = refl
types-same not_greater (Some x) (Some y) = refl
types-same greater (Some x) (Some y) = refl
types-same o (Some x) None = refl
types-same o None y = refl

pub turned-type : (names : List Declared) (e c : Expr) → IsTurned e c → type_of names c ≡ type_of names e
turned-type names e c (turns operator other a b o) = types-same o (type_of names a) (type_of names b)

-- Numbers.

-- the comparison is true or not, and its opposite is the other
pub record Turns (scope : Scope) (base : Base) (k : ℕ) (c : Expr) : Type 0 where
  pub told : Bool
  pub is_int : base ≡ Int
  pub is : k ≡ from_bool told
  pub opposite : IsNumber scope Int (from_bool (not told)) c

truth-number : (b : Bool) → truth b ≡ number Int (from_bool b)
truth-number true = refl
truth-number false = refl

gives-same : {v w : Value} → Gives v ≡ Gives w → v ≡ w
gives-same e = cc

module _ (scope : Scope) where
  pub turned-number : (e c : Expr) (base : Base) (k : ℕ) → IsTurned e c → IsNumber scope base k e → Turns scope base k c
  turned-number e c base k o x = by (value_of scope e) (value_of scope c) (values-apart scope e c o) x.valued refl
    where
      names : List Declared
      names = map declared_by scope.variables

      by : (p q : Outcome Value) → AreOpposite p q → p ≡ Gives (number base k) → value_of scope c ≡ q → Turns scope base k c
      by p q (truths b) gives there =
          let same = gives-same (sym gives) ∙ truth-number b in
          let int = ap (λ v. v.type.base) same in record {
            told = b;
            is_int = int;
            is = ap (λ v. v.bits) same;
            opposite = record {
              typed = turned-type names e c o ∙ x.typed ∙ ap (λ t. Some (plain t)) int;
              valued = there ∙ ap Gives (truth-number (not b));
            };
          }
      by p q divides gives there = absurd cc
      by p q undefined gives there = absurd cc
