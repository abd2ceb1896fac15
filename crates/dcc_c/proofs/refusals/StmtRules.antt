-- A statement that has been read to its end is allowed just where nothing offends in its own parts.
use Rattle.std.proofs.Common.{◌≡◌, ℕ, Bool, true, false, ◌&&◌, List, [], ◌∷◌, ◌++◌, Option, Some, None, refl, sym, ap, ◌∙◌}
use Rattle.std.specs.Prelude.{not, is_some, option_and_then, if◌then◌else◌}
use Rattle.dcc_c.specs.declared.syntax.CType.{CType}
use Rattle.dcc_c.specs.declared.syntax.CUn.TheVariants.{Minus, Complement, Not, Deref, AddressOf}
use Rattle.dcc_c.specs.Tree.{Word}
use Rattle.dcc_c.specs.Typing.{Declared, declared_as, type_of_variable, type_of, place_type}
use Rattle.dcc_c.specs.Rules.{converts, fits, is_number}
use Rattle.dcc_c.specs.Kinds.{of_name, of_type, Offence, offence, only_if}
use Rattle.dcc_c.specs.Partial.{PartialExpr, Missing, NumberHere, NameHere, UnaryHere, BinaryOf, ConditionalOf, CastHere, place_of, is_name_here}
use Rattle.dcc_c.specs.Known.{known_as}
use Rattle.dcc_c.specs.Offences.{BodyContext, told_place, no_variable, wants_number, expr_offences, place_offences, conversion, becomes, assigned_offences, test_offences}
use Rattle.dcc_c.specs.Stripped.{plain_expr}
use Rattle.dcc_c.specs.Complete.{is_complete_expr, is_complete_place}
use Rattle.dcc_c.proofs.refusals.ExprRules.{none-both, none-only, no-some, both-empty, expr-typed, expr-clean, no-pointer, no-number, then-some}

-- Places.

-- nothing offends in the place, and it takes values of the type
pub record IsPlaced (scene : BodyContext) (place : PartialExpr) (type : CType) : Type 0 where
  pub none : place_offences scene place ≡ []
  pub told : told_place scene.names place ≡ Some type
  pub is : place_type scene.names (plain_expr place) ≡ Some type

some-variable : (d : Declared) (at : ℕ) → only_if d.is_array (offence of_type at) ≡ [] → type_of_variable d ≡ Some d.type
some-variable d at e = rw (none-only d.is_array (offence of_type at) e) refl

no-name : (scene : BodyContext) (at : ℕ) (word : Word) → no_variable scene at word false ≡ [] → ⊥
no-name scene at word e = elim (is_some (known_as scene.functions word)) as (λ known. (if known then only_if true (offence of_type at) else offence of_name at ∷ []) ≡ [] → ⊥) [
  | true ↦ λ bad. absurd cc
  | false ↦ λ bad. absurd cc
] e

name-placed : (scene : BodyContext) (at : ℕ) (word : Word) → place_offences scene (NameHere at word false) ≡ [] →
    (type : CType) × IsPlaced scene (NameHere at word false) type
name-placed scene at word none = elim (declared_as scene.names word) as (λ d. declared_as scene.names word ≡ d → (type : CType) × IsPlaced scene (NameHere at word false) type) [
  | Some d ↦ λ is. let told = ap (option_and_then type_of_variable) is ∙ some-variable d at (sym (offends is) ∙ none) in
      (d.type, record { none = none; told = told; is = told })
  | None ↦ λ is. absurd (no-name scene at word (sym (offends is) ∙ none))
] refl where
  offends : {d : Option Declared} → declared_as scene.names word ≡ d →
      place_offences scene (NameHere at word false) ≡ (elim d [ Some d ↦ only_if d.is_array (offence of_type at) | None ↦ no_variable scene at word false ])
  offends is = ap (λ o. elim o [ Some d ↦ only_if d.is_array (offence of_type at) | None ↦ no_variable scene at word false ]) is

-- a complete place in which nothing offends
pub place-placed : (scene : BodyContext) (place : PartialExpr) → is_complete_place place ≡ true → place_offences scene place ≡ [] →
    (type : CType) × IsPlaced scene place type
place-placed scene (NameHere at word true) whole none = absurd cc
place-placed scene (NameHere at word false) whole none = name-placed scene at word none
place-placed scene (UnaryHere at Deref a) whole none =
    let t = expr-typed scene (UnaryHere at Deref a) whole none in
    (t.type, record { none = none; told = t.told; is = t.is })
place-placed scene (UnaryHere at Minus a) whole none = absurd cc
place-placed scene (UnaryHere at Complement a) whole none = absurd cc
place-placed scene (UnaryHere at Not a) whole none = absurd cc
place-placed scene (UnaryHere at AddressOf a) whole none = absurd cc
place-placed scene Missing whole none = absurd cc
place-placed scene (NumberHere at n base) whole none = absurd cc
place-placed scene (BinaryOf operator a b) whole none = absurd cc
place-placed scene (ConditionalOf a b c) whole none = absurd cc
place-placed scene (CastHere at type a) whole none = absurd cc

-- from a type to no offence: in a complete place that has a type nothing offends
not-array : (d : Declared) (at : ℕ) (type : CType) → type_of_variable d ≡ Some type → only_if d.is_array (offence of_type at) ≡ []
not-array d at type e = elim d.is_array as (λ a. (if a then None else Some d.type) ≡ Some type → only_if a (offence of_type at) ≡ []) [
  | true ↦ λ bad. absurd (no-some bad)
  | false ↦ λ _. refl
] e

pub place-clean : (scene : BodyContext) (place : PartialExpr) (type : CType) → is_complete_place place ≡ true →
    place_type scene.names (plain_expr place) ≡ Some type → IsPlaced scene place type
place-clean scene (NameHere at word called) type whole e =
    let found = then-some type_of_variable (declared_as scene.names word) type e in
    record {
      none = ap (λ o. elim o [ Some d ↦ only_if d.is_array (offence of_type at) | None ↦ no_variable scene at word called ]) found.1
          ∙ not-array found.0 at type found.2;
      told = e;
      is = e;
    }
place-clean scene (UnaryHere at Deref a) type whole e =
    let c = expr-clean scene (UnaryHere at Deref a) type whole e in
    record { none = c.none; told = c.told; is = e }
place-clean scene (UnaryHere at Minus a) type whole e = absurd cc
place-clean scene (UnaryHere at Complement a) type whole e = absurd cc
place-clean scene (UnaryHere at Not a) type whole e = absurd cc
place-clean scene (UnaryHere at AddressOf a) type whole e = absurd cc
place-clean scene Missing type whole e = absurd cc
place-clean scene (NumberHere at n base) type whole e = absurd cc
place-clean scene (BinaryOf operator a b) type whole e = absurd cc
place-clean scene (ConditionalOf a b c) type whole e = absurd cc
place-clean scene (CastHere at to a) type whole e = absurd cc

-- Conversions.

pub not-true : (b : Bool) → not b ≡ false → b ≡ true
not-true true e = refl
not-true false e = absurd cc

-- the value becomes one of the type: nothing offends in it, and it fits
pub fits-of : (scene : BodyContext) (e : PartialExpr) (to : CType) → is_complete_expr e ≡ true →
    expr_offences scene e ≡ [] → becomes scene e true (Some to) ≡ [] → fits scene.names to (plain_expr e) ≡ true
fits-of scene e to whole none own =
    let t = expr-typed scene e whole none in
    ap (λ o. elim o [ Some from ↦ converts from to | None ↦ false ]) t.is
    ∙ not-true (converts t.type to) (none-only (not (converts t.type to)) (offence of_type (place_of e))
    (ap (λ o. conversion o (Some to) (place_of e)) (sym t.told) ∙ own))

-- the value may become one of the type, as nothing offends in it
pub record Becomes (scene : BodyContext) (e : PartialExpr) (to : CType) : Type 0 where
  pub none : expr_offences scene e ≡ []
  pub own : becomes scene e true (Some to) ≡ []

pub becomes-of : (scene : BodyContext) (e : PartialExpr) (to : CType) → is_complete_expr e ≡ true →
    fits scene.names to (plain_expr e) ≡ true → Becomes scene e to
becomes-of scene e to whole fit = elim (type_of scene.names (plain_expr e)) as (λ o. type_of scene.names (plain_expr e) ≡ o → (elim o [ Some from ↦ converts from to | None ↦ false ]) ≡ true → Becomes scene e to) [
  | Some from ↦ λ is fit. let c = expr-clean scene e from whole is in
      record {
        none = c.none;
        own = ap (λ o. conversion o (Some to) (place_of e)) c.told ∙ ap (λ b. only_if (not b) (offence of_type (place_of e))) fit;
      }
  | None ↦ λ _ bad. absurd cc
] refl fit

-- Tests.

pub number-of-test : (scene : BodyContext) (e : PartialExpr) → is_complete_expr e ≡ true → test_offences scene e true ≡ [] → is_number scene.names (plain_expr e) ≡ true
number-of-test scene e whole none =
    let both = none-both (expr_offences scene e) (wants_number scene e) none in
    let t = expr-typed scene e whole both.0 in
    ap (λ o. elim o [ Some type ↦ not type.pointer | None ↦ false ]) t.is ∙ ap not (no-pointer scene e t both.1)

pub test-of-number : (scene : BodyContext) (e : PartialExpr) → is_complete_expr e ≡ true → is_number scene.names (plain_expr e) ≡ true → test_offences scene e true ≡ []
test-of-number scene e whole number = elim (type_of scene.names (plain_expr e)) as (λ o. type_of scene.names (plain_expr e) ≡ o → (elim o [ Some type ↦ not type.pointer | None ↦ false ]) ≡ true → test_offences scene e true ≡ []) [
  | Some type ↦ λ is p. let c = expr-clean scene e type whole is in both-empty c.none (no-number scene e type c.told (not-false type.pointer p))
  | None ↦ λ _ bad. absurd cc
] refl number where
  not-false : (b : Bool) → not b ≡ true → b ≡ false
  not-false true e = absurd cc
  not-false false e = refl

-- Assignments.

pub assignment-fits : (scene : BodyContext) (place e : PartialExpr) → is_complete_place place ≡ true → is_complete_expr e ≡ true →
    assigned_offences scene place (Some e) true ≡ [] →
    (elim (place_type scene.names (plain_expr place)) [ Some to ↦ fits scene.names to (plain_expr e) | None ↦ false ]) ≡ true
assignment-fits scene place e placed whole none =
    let parts = none-both (place_offences scene place) (if is_name_here e && not true then [] else expr_offences scene e ++ becomes scene e true (told_place scene.names place)) none in
    let p = place-placed scene place placed parts.0 in
    let value = none-both (expr_offences scene e) (becomes scene e true (told_place scene.names place)) (sym (done (is_name_here e) _) ∙ parts.1) in
    ap (λ o. elim o [ Some to ↦ fits scene.names to (plain_expr e) | None ↦ false ]) p.1.is
    ∙ fits-of scene e p.0 whole value.0 (ap (λ o. becomes scene e true o) (sym p.1.told) ∙ value.1) where
      done : (b : Bool) (xs : List Offence) → (if b && not true then [] else xs) ≡ xs
      done true xs = refl
      done false xs = refl
