-- A function means the same without needless casts, and may stand in its text.
use Rattle.std.proofs.Common.{◌≡◌, ℕ, Bool, true, false, ◌&&◌, ◌||◌, List, [], ◌∷◌, ◌++◌, map, Option, Some, None, refl, sym, ap, ◌∙◌, ◌%◌, ◌^◌, subst}
use Rattle.std.specs.Prelude.{if◌then◌else◌, option_map, option_and_then}
use Rattle.std.specs.Bool.{beq}
use Rattle.std.specs.List.{flat_map}
use Rattle.std.proofs.lemmas.Bool.{and_parts}
use Rattle.dcc_c.specs.declared.syntax.Base.{Base}
use Rattle.dcc_c.specs.declared.syntax.CType.{CType}
use Rattle.dcc_c.specs.declared.syntax.CUn.TheVariants.{Deref}
use Rattle.dcc_c.specs.Token.{same_bytes}
use Rattle.dcc_c.specs.Types.{same_base, plain, number_of_type, extended_bits}
use Rattle.dcc_c.specs.Tree.{Word, Expr, Name, Unary, Tree}
use Rattle.dcc_c.specs.Parts.{parts_of}
use Rattle.dcc_c.specs.Typing.{Declared, unary_type, declared_as, type_of_variable, place_type, type_of}
use Rattle.dcc_c.specs.Rules.{declared_in, converts, fits, fit_all}
use Rattle.dcc_c.specs.Value.{Value, converted, Outcome, Gives, Divides, Undefined, and_then, given, Storage, Unplaced, PlacedAt, Binding, declared_by, variable_in, Scope, value_of, Target, ToVariable, ToMemory, variable_target, pointed_target, target_of}
use Rattle.dcc_c.specs.Run.{Frame, global_binding, arguments_of}
use Rattle.dcc_progress.proofs.Declarations.{AreAs, Takes, takes-later, takes-first, takes-others, place-as}
use Rattle.dcc_progress.proofs.Frames.{IsFrame, Lands, scope-as, arrays-placed}
use Rattle.dcc_progress.proofs.Values.{Holds, has-type, typed-gives, place-gives}
use Rattle.dcc_respell.specs.Respelled.{Both, AllBits, TargetAlike, TakesAlike, scope_in}
use Rattle.dcc_casts.specs.Casts.{room_of, kept, lowered, becoming, passed}
use Rattle.dcc_casts.proofs.Low.{Count, of_count}
use Rattle.dcc_casts.proofs.Types.{plain-is, operand-has}
use Rattle.dcc_casts.proofs.Values.{SameLow, count-of, both-then, kept-value, lowered-value}

-- Evaluations that give one thing.

own-gives : {A : Type 0} (P : A → A → Type 0) (Q : A → Type 0) (o : Outcome A) → Holds Q o → ((a : A) → P a a) → Both P o o
own-gives P Q (Gives a) holds all = all a
own-gives P Q Divides holds all = tt
own-gives P Q Undefined holds all = absurd holds

target-own : (target : Target) → TargetAlike target target
target-own (ToVariable word) = refl
target-own (ToMemory type at) = (refl, refl)

gives-same : {A : Type 0} {a b : A} → Gives a ≡ Gives b → a ≡ b
gives-same e = cc

some-same : {A : Type 0} {a b : A} → Some a ≡ Some b → a ≡ b
some-same e = cc

-- the variables begin with those in which the name is found
found-first : (xs ys : List Binding) (word : Word) (b : Binding) → variable_in xs word ≡ Some b → variable_in (xs ++ ys) word ≡ Some b
found-first [] ys word b is = absurd cc
found-first (x ∷ xs) ys word b is = by (same_bytes x.name word) (found-first xs ys word b) is
  where
    by : (s : Bool) → (variable_in xs word ≡ Some b → variable_in (xs ++ ys) word ≡ Some b) → (if s then Some x else variable_in xs word) ≡ Some b → (if s then Some x else variable_in (xs ++ ys) word) ≡ Some b
    by true more is = is
    by false more is = more is

-- what a variable is declared as
declared-found : (xs : List Binding) (word : Word) → declared_as (map declared_by xs) word ≡ option_map declared_by (variable_in xs word)
declared-found [] word = refl
declared-found (x ∷ xs) word = by (same_bytes x.name word) (declared-found xs word)
  where
    by : (s : Bool) → declared_as (map declared_by xs) word ≡ option_map declared_by (variable_in xs word) → (if s then Some (declared_by x) else declared_as (map declared_by xs) word) ≡ option_map declared_by (if s then Some x else variable_in xs word)
    by true more = refl
    by false more = more

-- a pointer becomes a pointer
both-pointers : (from to : CType) → converts from to ≡ true → from.pointer ≡ true → to.pointer ≡ true
both-pointers from to fit pointer = by from.pointer to.pointer pointer fit
  where
    by : (p q : Bool) → p ≡ true → (if p || q then (same_base from.base to.base && beq p q) else true) ≡ true → q ≡ true
    by true true is fit = refl
    by true false is fit = let parts = and_parts (same_base from.base to.base) false fit in absurd cc
    by false q is fit = absurd cc

-- what becomes a number is one
pub free-from : (from to : CType) → converts from to ≡ true → to.pointer ≡ false → from.pointer ≡ false
free-from from to fit free = by from.pointer refl
  where
    by : (p : Bool) → from.pointer ≡ p → p ≡ false
    by false own = refl
    by true own = let no : false ≡ true = sym free ∙ both-pointers from to fit own in absurd cc

-- what a target takes has the type
abbrev TargetHas : List Binding → CType → Target → Type 0
TargetHas variables t (ToVariable word) = (b : Binding) → variable_in variables word ≡ Some b → b.type ≡ t
TargetHas variables t (ToMemory type at) = type ≡ t

module _ (tree : Tree) (frame : Frame) (is : IsFrame tree frame) (memory : List ℕ) where
  abbrev scope : Scope
  scope = scope_in tree frame memory

  abbrev names : List Declared
  names = declared_in tree frame.function

  abbrev TakesFor : List Expr → Type 0
  TakesFor es = Takes frame.function.body es

  all-as : AreAs frame.function.body names (map declared_by scope.variables)
  all-as = scope-as tree frame is

  pub kept-is : (e : Expr) (t : CType) → TakesFor (parts_of e) → type_of names e ≡ Some t → value_of scope (kept names e) ≡ value_of scope e
  kept-is e t takes has = kept-value frame.function.body names scope all-as (arrays-placed frame.function.body names scope.variables all-as) e t takes has

  pub lowered-is : (c : Count) (e : Expr) (b : Base) → TakesFor (parts_of e) → type_of names e ≡ Some (plain b) → Both (SameLow c) (value_of scope e) (value_of scope (lowered names (of_count c) e))
  lowered-is c e b takes has = lowered-value frame.function.body names scope all-as (arrays-placed frame.function.body names scope.variables all-as) e c b takes has

  -- equal evaluations
  pub equal-both : (P : Value → Value → Type 0) (e : Expr) (t : CType) → TakesFor (parts_of e) → type_of names e ≡ Some t → (o : Outcome Value) → o ≡ value_of scope e → ((v : Value) → P v v) → Both P (value_of scope e) o
  equal-both P e t takes has o same all =
      subst (Both P (value_of scope e)) (sym same) (own-gives P (λ v. v.type ≡ t) (value_of scope e) (typed-gives tree frame is memory e t takes has) all)

  -- values that become ones of a type have its bits
  pub becoming-both : (P : Value → Value → Type 0) (type : CType) (e : Expr) → TakesFor (parts_of e) → fits names type e ≡ true →
      ((v w : Value) → (converted type w).bits ≡ (converted type v).bits → P v w) → Both P (value_of scope e) (value_of scope (becoming names type e))
  becoming-both P type e takes fit more =
      let has = has-type (type_of names e) (λ from. converts from type) fit in
      by type.pointer refl has.0 has.1 (passed-test (type_of names e) has.0 has.1 fit)
    where
      passed-test : (o : Option CType) (from : CType) → o ≡ Some from → elim o [ Some t ↦ converts t type | None ↦ false ] ≡ true → converts from type ≡ true
      passed-test o from has fit = subst (λ x. elim x [ Some t ↦ converts t type | None ↦ false ] ≡ true) has fit

      free-from : (from : CType) → type.pointer ≡ false → converts from type ≡ true → from.pointer ≡ false
      free-from from free fit = from-pointer from.pointer refl
        where
          from-pointer : (p : Bool) → from.pointer ≡ p → p ≡ false
          from-pointer false own = refl
          from-pointer true own = let no : false ≡ true = sym free ∙ both-pointers from type fit own in absurd cc

      by : (p : Bool) → type.pointer ≡ p → (from : CType) → type_of names e ≡ Some from → converts from type ≡ true → Both P (value_of scope e) (value_of scope (if p then kept names e else lowered names (room_of type) e))
      by true pointer from has fit = equal-both P e from takes has (value_of scope (kept names e)) (kept-is e from takes has) (λ v. more v v refl)
      by false free from has fit =
          let c = count-of (number_of_type type) in
          let low = lowered-is c.0 e from.base takes (has ∙ ap Some (plain-is from (free-from from free fit))) in
          subst (λ k. Both P (value_of scope e) (value_of scope (lowered names k e))) c.1
          (weaker c.0 c.1 (value_of scope e) (value_of scope (lowered names (of_count c.0) e)) low)
        where
          weaker : (c : Count) → of_count c ≡ room_of type → (o p : Outcome Value) → Both (SameLow c) o p → Both P o p
          weaker c room (Gives v) (Gives w) both =
              more v w (ap (λ k. extended_bits (number_of_type w.type) w.bits % 2 ^ k) (sym room) ∙ both ∙ ap (λ k. extended_bits (number_of_type v.type) v.bits % 2 ^ k) room)
          weaker c room Divides Divides both = tt
          weaker c room (Gives v) Divides both = absurd both
          weaker c room (Gives v) Undefined both = absurd both
          weaker c room Divides (Gives w) both = absurd both
          weaker c room Divides Undefined both = absurd both
          weaker c room Undefined p both = absurd both

  -- Places.

  pub place-is : (place : Expr) (t : CType) → TakesFor (parts_of place) → place_type names place ≡ Some t → target_of scope (kept names place) ≡ target_of scope place
  place-is (Name word) t takes has = refl
  place-is (Unary Deref a) t takes has =
      let operand = operand-has (unary_type Deref) (type_of names a) t has in
      ap (and_then pointed_target) (kept-is a operand.0 (takes-later frame.function.body (Unary Deref a) (parts_of a) takes) operand.1)
  place-is place t takes has = absurd cc

  pub places-alike : (place : Expr) (t : CType) → TakesFor (parts_of place) → place_type names place ≡ Some t → Both TargetAlike (target_of scope place) (target_of scope (kept names place))
  places-alike place t takes has =
      subst (Both TargetAlike (target_of scope place)) (sym (place-is place t takes has)) (own-gives TargetAlike (Lands frame.variables) (target_of scope place) (place-gives tree frame is memory place t takes has) target-own)

  named-has : (word : Word) (t : CType) (o : Option Binding) → variable_in scope.variables word ≡ o → option_and_then type_of_variable (option_map declared_by o) ≡ Some t →
      (target : Target) → and_then (variable_target word) (given o) ≡ Gives target → TargetHas frame.variables t target
  named-has word t None found has target gives = absurd cc
  named-has word t (Some b) found has target gives = by b.is_array b.storage has gives
    where
      by : (array : Bool) (storage : Storage) → (if array then None else Some b.type) ≡ Some t → (if array then Undefined else elim storage [ Unplaced bits ↦ Gives (ToVariable word) | PlacedAt at ↦ Gives (ToMemory b.type at) ]) ≡ Gives target → TargetHas frame.variables t target
      by true storage has gives = absurd cc
      by false (Unplaced bits) has gives =
          subst (TargetHas frame.variables t) (gives-same gives)
          (λ c there. let same : b ≡ c = some-same (sym found ∙ found-first frame.variables (map global_binding tree.globals) word c there) in ap (λ (x : Binding). x.type) (sym same) ∙ some-same has)
      by false (PlacedAt at) has gives = subst (TargetHas frame.variables t) (gives-same gives) (some-same has)

  pointed-has : (a t : CType) → unary_type Deref a ≡ Some t → (o : Outcome Value) → Holds (λ v. v.type ≡ a) o → (target : Target) → and_then pointed_target o ≡ Gives target → TargetHas frame.variables t target
  pointed-has a t has (Gives v) is target gives = by v.type.pointer (subst (λ u. (if u.pointer then Some (plain u.base) else None) ≡ Some t) (sym is) has) gives
    where
      by : (p : Bool) → (if p then Some (plain v.type.base) else None) ≡ Some t → (if p then Gives (ToMemory (plain v.type.base) v.bits) else Undefined) ≡ Gives target → TargetHas frame.variables t target
      by true has gives = subst (TargetHas frame.variables t) (gives-same gives) (some-same has)
      by false has gives = absurd cc
  pointed-has a t has Divides is target gives = absurd cc
  pointed-has a t has Undefined is target gives = absurd is

  target-has : (place : Expr) (t : CType) → TakesFor (parts_of place) → place_type names place ≡ Some t → (target : Target) → target_of scope place ≡ Gives target → TargetHas frame.variables t target
  target-has (Name word) t takes has target gives =
      let own = place-as frame.function.body names (map declared_by scope.variables) all-as word t has in
      named-has word t (variable_in scope.variables word) refl (ap (option_and_then type_of_variable) (sym (declared-found scope.variables word)) ∙ own) target gives
  target-has (Unary Deref a) t takes has target gives =
      let operand = operand-has (unary_type Deref) (type_of names a) t has in
      pointed-has operand.0 t operand.2 (value_of scope a) (typed-gives tree frame is memory a operand.0 (takes-later frame.function.body (Unary Deref a) (parts_of a) takes) operand.1) target gives
  target-has place t takes has target gives = absurd cc

  takes-same : (type : CType) (target : Target) (v w : Value) → TargetHas frame.variables type target → (converted type w).bits ≡ (converted type v).bits → TakesAlike frame.variables frame.variables target target v w
  takes-same type (ToVariable word) v w has same = λ b c here there.
      subst (λ t. (converted t w).bits ≡ (converted b.type v).bits) (ap (λ (x : Binding). x.type) (some-same (sym here ∙ there)))
      (subst (λ t. (converted t w).bits ≡ (converted t v).bits) (sym (has b here)) same)
  takes-same type (ToMemory own at) v w has same = subst (λ t. (converted t w).bits ≡ (converted t v).bits) (sym has) same

  pub assigned-both : (place e : Expr) (type : CType) → TakesFor (parts_of place) → TakesFor (parts_of e) → place_type names place ≡ Some type → fits names type e ≡ true →
      Both (λ v w. (target to : Target) → target_of scope place ≡ Gives target → target_of scope (kept names place) ≡ Gives to → TakesAlike frame.variables frame.variables target to v w) (value_of scope e) (value_of scope (becoming names type e))
  assigned-both place e type place_takes takes has fit =
      becoming-both (λ v w. (target to : Target) → target_of scope place ≡ Gives target → target_of scope (kept names place) ≡ Gives to → TakesAlike frame.variables frame.variables target to v w) type e takes fit
      (λ v w same target to here there.
      let one : target ≡ to = gives-same (sym here ∙ sym (place-is place type place_takes has) ∙ there) in
      subst (λ x. TakesAlike frame.variables frame.variables target x v w) one (takes-same type target v w (target-has place type place_takes has target here) same))

  -- Arguments.

  pub passed-both : (types : List CType) (es : List Expr) → TakesFor (flat_map parts_of es) → fit_all names types es ≡ true → Both AllBits (arguments_of scope types es) (arguments_of scope types (passed names types es))
  passed-both [] [] takes fit = tt
  passed-both (type ∷ types) (e ∷ es) takes fit =
      let parts = and_parts (fits names type e) (fit_all names types es) fit in
      both-then (λ v w. (converted type w).bits ≡ (converted type v).bits) AllBits (λ v. and_then (λ vs. Gives (converted type v ∷ vs)) (arguments_of scope types es)) (λ v. and_then (λ vs. Gives (converted type v ∷ vs)) (arguments_of scope types (passed names types es)))
      (value_of scope e) (value_of scope (becoming names type e))
      (becoming-both (λ v w. (converted type w).bits ≡ (converted type v).bits) type e (takes-first frame.function.body e es takes) parts.0 (λ v w same. same))
      (λ v w here there same. both-then AllBits AllBits (λ vs. Gives (converted type v ∷ vs)) (λ vs. Gives (converted type w ∷ vs)) (arguments_of scope types es) (arguments_of scope types (passed names types es))
      (passed-both types es (takes-others frame.function.body e es takes) parts.1) (λ vs ws h k bits. (record { bits = same; room = refl }, bits)))
  passed-both (type ∷ types) [] takes fit = absurd cc
  passed-both [] (e ∷ es) takes fit = absurd cc
