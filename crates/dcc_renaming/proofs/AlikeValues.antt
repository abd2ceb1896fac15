-- Values of expressions with other names, in a scope with other names: names that differ stay different.
use Rattle.std.proofs.Common.{◌≡◌, ℕ, Bool, true, false, List, [], ◌∷◌, map, Option, Some, None, refl, ap, ap₂, ◌∙◌}
use Rattle.std.specs.Prelude.{if◌then◌else◌, option_map, option_and_then}
use Rattle.dcc_c.specs.declared.syntax.CType.{CType}
use Rattle.dcc_c.specs.declared.syntax.CUn.TheVariants.{Deref, AddressOf}
use Rattle.dcc_c.specs.declared.syntax.CBin.TheVariants.{OrOr, AndAnd}
use Rattle.dcc_c.specs.Token.{same_bytes}
use Rattle.dcc_c.specs.Types.{plain}
use Rattle.dcc_c.specs.Tree.{Word, Expr, Number, Name, Unary, Binary, Conditional, Cast}
use Rattle.dcc_c.specs.Typing.{Declared, declared_as, type_of_name, type_of_address, unary_type, both_types, both_arms_type, tested_type, type_of}
use Rattle.dcc_c.specs.Value.{Value, Outcome, Gives, Divides, Undefined, and_then, given, Storage, Unplaced, PlacedAt, Binding, declared_by, variable_in, after_assignment, Scope, variable_value, address_value, pointed_value, unary_value, both_values, truth_value, is_zero, chosen, converted, value_of, Target, ToVariable, ToMemory, variable_target, pointed_target, target_of}
use Rattle.dcc_c.specs.Run.{arguments_of, result_target}
use Rattle.dcc_renaming.specs.Renamed.{renamed_expr}

abbrev pub outcome_map : {A B : Type 0} → (A → B) → Outcome A → Outcome B
outcome_map f (Gives a) = Gives (f a)
outcome_map f Divides = Divides
outcome_map f Undefined = Undefined

module _ (new : Word → Word) where
  abbrev pub renamed_declared : Declared → Declared
  renamed_declared d = record d { name = new d.name }

  abbrev pub renamed_binding : Binding → Binding
  renamed_binding b = record b { name = new b.name }

  abbrev pub renamed_scope : Scope → Scope
  renamed_scope scope = record { variables = map renamed_binding scope.variables; memory = scope.memory }

  abbrev pub renamed_target : Target → Target
  renamed_target (ToVariable word) = ToVariable (new word)
  renamed_target (ToMemory type at) = ToMemory type at

  pub declared-renamed : (variables : List Binding) → map declared_by (map renamed_binding variables) ≡ map renamed_declared (map declared_by variables)
  declared-renamed [] = refl
  declared-renamed (b ∷ variables) = ap (λ l. renamed_declared (declared_by b) ∷ l) (declared-renamed variables)

  module _ (same : (a b : Word) → same_bytes (new a) (new b) ≡ same_bytes a b) where
    pub found-declared : (names : List Declared) (word : Word) → declared_as (map renamed_declared names) (new word) ≡ option_map renamed_declared (declared_as names word)
    found-declared [] word = refl
    found-declared (d ∷ names) word = rw (same d.name word) (either (same_bytes d.name word) (found-declared names word)) where
      either : (b : Bool) → declared_as (map renamed_declared names) (new word) ≡ option_map renamed_declared (declared_as names word) →
          (if b then Some (renamed_declared d) else declared_as (map renamed_declared names) (new word)) ≡ option_map renamed_declared (if b then Some d else declared_as names word)
      either true e = refl
      either false e = e

    name-type : (o : Option Declared) → option_and_then type_of_name (option_map renamed_declared o) ≡ option_and_then type_of_name o
    name-type (Some d) = refl
    name-type None = refl

    address-type : (o : Option Declared) → option_and_then type_of_address (option_map renamed_declared o) ≡ option_and_then type_of_address o
    address-type (Some d) = refl
    address-type None = refl

    pub type-renamed : (names : List Declared) (e : Expr) → type_of (map renamed_declared names) (renamed_expr new e) ≡ type_of names e
    type-renamed names (Number n base) = refl
    type-renamed names (Name word) = ap (option_and_then type_of_name) (found-declared names word) ∙ name-type (declared_as names word)
    type-renamed names (Unary AddressOf (Name word)) = ap (option_and_then type_of_address) (found-declared names word) ∙ address-type (declared_as names word)
    type-renamed names (Unary AddressOf a) = refl
    type-renamed names (Unary operator a) = ap (option_and_then (unary_type operator)) (type-renamed names a)
    type-renamed names (Binary operator a b) = ap₂ (both_types operator) (type-renamed names a) (type-renamed names b)
    type-renamed names (Conditional a b c) = ap₂ tested_type (type-renamed names a) (ap₂ both_arms_type (type-renamed names b) (type-renamed names c))
    type-renamed names (Cast type a) = ap (option_map (λ from. type)) (type-renamed names a)

    pub found-variable : (variables : List Binding) (word : Word) → variable_in (map renamed_binding variables) (new word) ≡ option_map renamed_binding (variable_in variables word)
    found-variable [] word = refl
    found-variable (b ∷ variables) word = rw (same b.name word) (either (same_bytes b.name word) (found-variable variables word)) where
      either : (t : Bool) → variable_in (map renamed_binding variables) (new word) ≡ option_map renamed_binding (variable_in variables word) →
          (if t then Some (renamed_binding b) else variable_in (map renamed_binding variables) (new word)) ≡ option_map renamed_binding (if t then Some b else variable_in variables word)
      either true e = refl
      either false e = e

    name-value : (memory : List ℕ) (o : Option Binding) → and_then (variable_value memory) (given (option_map renamed_binding o)) ≡ and_then (variable_value memory) (given o)
    name-value memory (Some b) = refl
    name-value memory None = refl

    address-of : (o : Option Binding) → and_then address_value (given (option_map renamed_binding o)) ≡ and_then address_value (given o)
    address-of (Some b) = refl
    address-of None = refl

    pub value-renamed : (scope : Scope) (e : Expr) → value_of (renamed_scope scope) (renamed_expr new e) ≡ value_of scope e
    value-renamed scope (Number n base) = refl
    value-renamed scope (Name word) = ap (λ o. and_then (variable_value scope.memory) (given o)) (found-variable scope.variables word) ∙ name-value scope.memory (variable_in scope.variables word)
    value-renamed scope (Unary AddressOf (Name word)) = ap (λ o. and_then address_value (given o)) (found-variable scope.variables word) ∙ address-of (variable_in scope.variables word)
    value-renamed scope (Unary AddressOf a) = refl
    value-renamed scope (Unary Deref a) = ap (and_then (pointed_value scope.memory)) (value-renamed scope a)
    value-renamed scope (Unary operator a) = ap (and_then (unary_value operator)) (value-renamed scope a)
    value-renamed scope (Binary OrOr a b) =
        ap₂ (λ x y. let second = and_then truth_value y in and_then (λ v. if is_zero v then second else Gives v) (and_then truth_value x)) (value-renamed scope a) (value-renamed scope b)
    value-renamed scope (Binary AndAnd a b) =
        ap₂ (λ x y. let second = and_then truth_value y in and_then (λ v. if is_zero v then Gives v else second) (and_then truth_value x)) (value-renamed scope a) (value-renamed scope b)
    value-renamed scope (Binary operator a b) =
        ap₂ (λ x y. and_then (λ v. and_then (both_values operator v) y) x) (value-renamed scope a) (value-renamed scope b)
    value-renamed scope (Conditional a b c) =
        ap₂ (λ t x. and_then (chosen t (value_of (renamed_scope scope) (renamed_expr new b)) (value_of (renamed_scope scope) (renamed_expr new c))) x) types (value-renamed scope a)
        ∙ ap₂ (λ y z. and_then (chosen (both_arms_type (type_of names b) (type_of names c)) y z) (value_of scope a)) (value-renamed scope b) (value-renamed scope c) where
          names : List Declared
          names = map declared_by scope.variables

          one : (e : Expr) → type_of (map declared_by (map renamed_binding scope.variables)) (renamed_expr new e) ≡ type_of (map declared_by scope.variables) e
          one e = ap (λ ns. type_of ns (renamed_expr new e)) (declared-renamed scope.variables) ∙ type-renamed (map declared_by scope.variables) e

          types : both_arms_type (type_of (map declared_by (map renamed_binding scope.variables)) (renamed_expr new b)) (type_of (map declared_by (map renamed_binding scope.variables)) (renamed_expr new c))
              ≡ both_arms_type (type_of (map declared_by scope.variables) b) (type_of (map declared_by scope.variables) c)
          types = ap₂ both_arms_type (one b) (one c)
    value-renamed scope (Cast type a) = ap (and_then (λ v. Gives (converted type v))) (value-renamed scope a)

    variable-goes : (word : Word) (o : Option Binding) →
        and_then (variable_target (new word)) (given (option_map renamed_binding o)) ≡ outcome_map renamed_target (and_then (variable_target word) (given o))
    variable-goes word None = refl
    variable-goes word (Some b) = kept b.is_array b.storage where
      kept : (is_array : Bool) (storage : Storage) →
          (if is_array then Undefined else elim storage [ Unplaced bits ↦ Gives (ToVariable (new word)) | PlacedAt at ↦ Gives (ToMemory b.type at) ])
          ≡ outcome_map renamed_target (if is_array then Undefined else elim storage [ Unplaced bits ↦ Gives (ToVariable word) | PlacedAt at ↦ Gives (ToMemory b.type at) ])
      kept true storage = refl
      kept false (Unplaced bits) = refl
      kept false (PlacedAt at) = refl

    pointed-goes : (o : Outcome Value) → and_then pointed_target o ≡ outcome_map renamed_target (and_then pointed_target o)
    pointed-goes Divides = refl
    pointed-goes Undefined = refl
    pointed-goes (Gives v) = kept v.type.pointer where
      kept : (p : Bool) → (if p then Gives (ToMemory (plain v.type.base) v.bits) else Undefined)
          ≡ outcome_map renamed_target (if p then Gives (ToMemory (plain v.type.base) v.bits) else Undefined)
      kept true = refl
      kept false = refl

    pub target-renamed : (scope : Scope) (e : Expr) → target_of (renamed_scope scope) (renamed_expr new e) ≡ outcome_map renamed_target (target_of scope e)
    target-renamed scope (Name word) = ap (λ o. and_then (variable_target (new word)) (given o)) (found-variable scope.variables word) ∙ variable-goes word (variable_in scope.variables word)
    target-renamed scope (Unary Deref a) = ap (and_then pointed_target) (value-renamed scope a) ∙ pointed-goes (value_of scope a)
    target-renamed scope (Unary operator a) = refl
    target-renamed scope (Number n base) = refl
    target-renamed scope (Binary operator a b) = refl
    target-renamed scope (Conditional a b c) = refl
    target-renamed scope (Cast type a) = refl

    pub arguments-renamed : (scope : Scope) (types : List CType) (es : List Expr) → arguments_of (renamed_scope scope) types (map (renamed_expr new) es) ≡ arguments_of scope types es
    arguments-renamed scope [] [] = refl
    arguments-renamed scope [] (e ∷ es) = refl
    arguments-renamed scope (type ∷ types) [] = refl
    arguments-renamed scope (type ∷ types) (e ∷ es) =
        ap₂ (λ x y. and_then (λ v. and_then (λ vs. Gives (converted type v ∷ vs)) y) x) (value-renamed scope e) (arguments-renamed scope types es)

    some-target : (o : Outcome Target) →
        and_then (λ target. Gives (Some target)) (outcome_map renamed_target o) ≡ outcome_map (option_map renamed_target) (and_then (λ target. Gives (Some target)) o)
    some-target (Gives target) = refl
    some-target Divides = refl
    some-target Undefined = refl

    pub result-renamed : (scope : Scope) (place : Option Expr) →
        result_target (renamed_scope scope) (option_map (renamed_expr new) place) ≡ outcome_map (option_map renamed_target) (result_target scope place)
    result-renamed scope None = refl
    result-renamed scope (Some e) = ap (and_then (λ target. Gives (Some target))) (target-renamed scope e) ∙ some-target (target_of scope e)

    pub assigned-renamed : (variables : List Binding) (word : Word) (v : Value) →
        after_assignment (map renamed_binding variables) (new word) v ≡ map renamed_binding (after_assignment variables word v)
    assigned-renamed [] word v = refl
    assigned-renamed (b ∷ variables) word v = rw (same b.name word) (either (same_bytes b.name word) (assigned-renamed variables word v)) where
      either : (t : Bool) → after_assignment (map renamed_binding variables) (new word) v ≡ map renamed_binding (after_assignment variables word v) →
          (if t then record (renamed_binding b) { storage = Unplaced (converted b.type v).bits } ∷ map renamed_binding variables
          else renamed_binding b ∷ after_assignment (map renamed_binding variables) (new word) v)
          ≡ map renamed_binding (if t then record b { storage = Unplaced (converted b.type v).bits } ∷ variables else b ∷ after_assignment variables word v)
      either true e = refl
      either false e = ap (λ l. renamed_binding b ∷ l) e
