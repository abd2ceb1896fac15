-- The expressions of a call's function have values, or a division in them faults.
use Rattle.std.proofs.Common.{◌≡◌, ℕ, Bool, true, false, not, List, [], ◌∷◌, ◌++◌, map, Option, Some, None, refl, sym, ap, ◌∙◌}
use Rattle.std.specs.Prelude.{is_some, if◌then◌else◌, option_and_then}
use Rattle.std.specs.List.{flat_map}
use Rattle.std.proofs.lemmas.Bool.{and_parts}
use Rattle.dcc_c.specs.declared.syntax.CType.{CType}
use Rattle.dcc_c.specs.declared.syntax.CUn.TheVariants.{Deref}
use Rattle.dcc_c.specs.Token.{same_bytes}
use Rattle.dcc_c.specs.Types.{plain}
use Rattle.dcc_c.specs.Tree.{Word, Expr, Name, Unary, Global, Tree}
use Rattle.dcc_c.specs.Parts.{parts_of, expr_if}
use Rattle.dcc_c.specs.Dos.{Signature}
use Rattle.dcc_c.specs.Typing.{Declared, declared_as, type_of_variable, type_of, place_type}
use Rattle.dcc_c.specs.Value.{Value, Outcome, Gives, Divides, Undefined, and_then, given, Storage, Unplaced, PlacedAt, Binding, converted, is_placed, declared_by, variable_in, after_assignment, Scope, value_of, Target, ToVariable, ToMemory, variable_target, pointed_target, target_of}
use Rattle.dcc_c.specs.Rules.{declared_in, converts, fits, is_number, fit_all, result_fits, call_fits}
use Rattle.dcc_c.specs.Run.{Frame, global_binding, arguments_of, result_target}
use Rattle.dcc_c.proofs.TypingLaws.{IsOf, typed-has_value}
use Rattle.dcc_c.proofs.NameLaws.{after_assignment-here, after_assignment-other}
use Rattle.dcc_progress.proofs.Declarations.{Takes, takes-later, takes-first, takes-others, typed-as, place-as}
use Rattle.dcc_progress.proofs.Frames.{SameLength, IsFrame, Lands, IfLands, scope-as, arrays-placed}

-- an evaluation that gives something gives what the property holds of, and it has a meaning
abbrev pub Holds : {A : Type 0} → (A → Type 0) → Outcome A → Type 0
Holds P (Gives a) = P a
Holds P Divides = Unit {0}
Holds P Undefined = ⊥

-- nothing more is wanted of it
abbrev pub Any : {A : Type 0} → A → Type 0
Any a = Unit {0}

then-holds : {A B : Type 0} (P : A → Type 0) (Q : B → Type 0) (next : A → Outcome B) (o : Outcome A) → Holds P o → ((a : A) → P a → Holds Q (next a)) → Holds Q (and_then next o)
then-holds P Q next (Gives a) holds more = more a holds
then-holds P Q next Divides holds more = tt
then-holds P Q next Undefined holds more = absurd holds

of-holds : (t : CType) (o : Outcome Value) → IsOf t o → Holds (λ v. v.type ≡ t) o
of-holds t (Gives v) is = is
of-holds t Divides is = tt
of-holds t Undefined is = absurd is

-- a test that is passed has a type
pub has-type : (o : Option CType) (p : CType → Bool) → elim o [ Some t ↦ p t | None ↦ false ] ≡ true → (t : CType) × (o ≡ Some t)
has-type (Some t) p is = (t, refl)
has-type None p is = absurd cc

-- there is a place for a result only where there is a result
pub place-result : (names : List Declared) (place : Option Expr) (result : Option CType) → result_fits names place result ≡ true → is_some place ≡ true → is_some result ≡ true
place-result names None result fit some = absurd cc
place-result names (Some place) None fit some = absurd cc
place-result names (Some place) (Some type) fit some = refl

-- what is called has a result that fits
pub call-result : (names : List Declared) (place : Option Expr) (arguments : List Expr) (o : Option Signature) → call_fits names place arguments o ≡ true → (result : Option CType) × (result_fits names place result ≡ true)
call-result names place arguments None fit = absurd cc
call-result names place arguments (Some known) fit =
    (known.result, (and_parts (result_fits names place known.result) (fit_all names known.params arguments) fit).0)

-- Targets.

-- the target is the variable with the name, which stays what it is
abbrev LandsAt : List Binding → Word → Target → Type 0
LandsAt variables word (ToVariable named) =
    (named ≡ word) × ((v : Value) → map declared_by (after_assignment variables word v) ≡ map declared_by variables)
LandsAt variables word (ToMemory type at) = Unit {0}

lands-named : (variables : List Binding) (word : Word) (target : Target) → LandsAt variables word target → Lands variables target
lands-named variables word (ToVariable named) lands = λ v. ap (λ w. map declared_by (after_assignment variables w v)) lands.0 ∙ lands.1 v
lands-named variables word (ToMemory type at) lands = tt

module _ (b : Binding) (variables : List Binding) (word : Word) where
  keeps-here : (v : Value) → same_bytes b.name word ≡ true → is_placed b.storage ≡ false → map declared_by (after_assignment (b ∷ variables) word v) ≡ map declared_by (b ∷ variables)
  keeps-here v same free =
      ap (map declared_by) (after_assignment-here b variables word v same)
      ∙ ap (λ p. record { name = b.name; type = b.type; is_array = b.is_array; is_placed = p } ∷ map declared_by variables) (sym free)

  here-lands : (array : Bool) (storage : Storage) (t : CType) → same_bytes b.name word ≡ true → b.storage ≡ storage → (if array then None else Some b.type) ≡ Some t →
      Holds (LandsAt (b ∷ variables) word) (if array then Undefined else elim storage [ Unplaced bits ↦ Gives (ToVariable word) | PlacedAt at ↦ Gives (ToMemory b.type at) ])
  here-lands true storage t same is has = absurd cc
  here-lands false (Unplaced bits) t same is has = (refl, λ v. keeps-here v same (ap is_placed is))
  here-lands false (PlacedAt at) t same is has = tt

  later-lands : (o : Outcome Target) → same_bytes b.name word ≡ false → Holds (LandsAt variables word) o → Holds (LandsAt (b ∷ variables) word) o
  later-lands (Gives (ToVariable named)) other lands =
      (lands.0, λ v. ap (map declared_by) (after_assignment-other b variables word v other) ∙ ap (λ ds. declared_by b ∷ ds) (lands.1 v))
  later-lands (Gives (ToMemory type at)) other lands = tt
  later-lands Divides other lands = tt
  later-lands Undefined other lands = absurd lands

-- a global variable is in memory
global-lands : (array : Bool) (type : CType) (at : ℕ) (word : Word) (t : CType) → (if array then None else Some type) ≡ Some t →
    Holds (LandsAt [] word) (if array then Undefined else Gives (ToMemory type at))
global-lands true type at word t has = absurd cc
global-lands false type at word t has = tt

globals-land : (globals : List Global) (word : Word) (t : CType) →
    option_and_then type_of_variable (declared_as (map declared_by (map global_binding globals)) word) ≡ Some t →
    Holds (LandsAt [] word) (and_then (variable_target word) (given (variable_in (map global_binding globals) word)))
globals-land [] word t has = absurd cc
globals-land (g ∷ globals) word t has =
    elim (same_bytes g.name word) as (λ same. option_and_then type_of_variable (if same then Some (declared_by (global_binding g)) else declared_as (map declared_by (map global_binding globals)) word) ≡ Some t → Holds (LandsAt [] word) (and_then (variable_target word) (given (if same then Some (global_binding g) else variable_in (map global_binding globals) word)))) [
      | true ↦ λ here. global-lands (is_some g.len) g.type g.at word t here
      | false ↦ λ later. globals-land globals word t later
    ] has

variables-land : (variables : List Binding) (globals : List Global) (word : Word) (t : CType) →
    option_and_then type_of_variable (declared_as (map declared_by (variables ++ map global_binding globals)) word) ≡ Some t →
    Holds (LandsAt variables word) (and_then (variable_target word) (given (variable_in (variables ++ map global_binding globals) word)))
variables-land [] globals word t has = globals-land globals word t has
variables-land (b ∷ variables) globals word t has =
    elim (same_bytes b.name word) as (λ same. same_bytes b.name word ≡ same → option_and_then type_of_variable (if same then Some (declared_by b) else declared_as (map declared_by (variables ++ map global_binding globals)) word) ≡ Some t → Holds (LandsAt (b ∷ variables) word) (and_then (variable_target word) (given (if same then Some b else variable_in (variables ++ map global_binding globals) word)))) [
      | true ↦ λ same here. here-lands b variables word b.is_array b.storage t same refl here
      | false ↦ λ other later. later-lands b variables word _ other (variables-land variables globals word t later)
    ] refl has

pointed-holds : (v : Value) (variables : List Binding) → v.type.pointer ≡ true → Holds (Lands variables) (pointed_target v)
pointed-holds v variables is = rw is tt

-- what is pointed to has a type only where a pointer points to it
pointer-of : (a : CType) (t : CType) → (if a.pointer then Some (plain a.base) else None) ≡ Some t → a.pointer ≡ true
pointer-of a t has = by a.pointer refl has
  where
    by : (p : Bool) → a.pointer ≡ p → (if p then Some (plain a.base) else None) ≡ Some t → a.pointer ≡ true
    by true is has = is
    by false is has = absurd cc

operand-of : (o : Option CType) (t : CType) → option_and_then (λ a. if a.pointer then Some (plain a.base) else None) o ≡ Some t → (a : CType) × (o ≡ Some a) × (a.pointer ≡ true)
operand-of (Some a) t has = (a, refl, pointer-of a t has)
operand-of None t has = absurd cc

-- The expressions of a call's function.

module _ (tree : Tree) (frame : Frame) (is : IsFrame tree frame) (memory : List ℕ) where
  abbrev scope : Scope
  scope = record { variables = frame.variables ++ map global_binding tree.globals; memory = memory }

  pub typed-gives : (e : Expr) (t : CType) → Takes frame.function.body (parts_of e) → type_of (declared_in tree frame.function) e ≡ Some t → Holds (λ v. v.type ≡ t) (value_of scope e)
  typed-gives e t takes has =
      let body = frame.function.body in
      let names = declared_in tree frame.function in
      let all = scope-as tree frame is in
      of-holds t (value_of scope e) (typed-has_value scope (arrays-placed body names scope.variables all) e t (typed-as body names (map declared_by scope.variables) all e t takes has))

  pub value-holds : (e : Expr) → Takes frame.function.body (parts_of e) → (t : CType) × (type_of (declared_in tree frame.function) e ≡ Some t) → Holds Any (value_of scope e)
  value-holds e takes typed = any-of (value_of scope e) (typed-gives e typed.0 takes typed.1)
    where
      any-of : (o : Outcome Value) → Holds (λ v. v.type ≡ typed.0) o → Holds Any o
      any-of (Gives v) holds = tt
      any-of Divides holds = tt
      any-of Undefined holds = absurd holds

  pub fitting-gives : (e : Expr) (to : CType) → Takes frame.function.body (parts_of e) → fits (declared_in tree frame.function) to e ≡ true → Holds Any (value_of scope e)
  fitting-gives e to takes fit = value-holds e takes (has-type (type_of (declared_in tree frame.function) e) (λ from. converts from to) fit)

  pub number-gives : (e : Expr) → Takes frame.function.body (parts_of e) → is_number (declared_in tree frame.function) e ≡ true → Holds Any (value_of scope e)
  number-gives e takes number = value-holds e takes (has-type (type_of (declared_in tree frame.function) e) (λ t. not t.pointer) number)

  -- a place has a target
  pub place-gives : (place : Expr) (t : CType) → Takes frame.function.body (parts_of place) → place_type (declared_in tree frame.function) place ≡ Some t → Holds (Lands frame.variables) (target_of scope place)
  place-gives (Name word) t takes has =
      let names = declared_in tree frame.function in
      let own = place-as frame.function.body names (map declared_by scope.variables) (scope-as tree frame is) word t has in
      named (and_then (variable_target word) (given (variable_in scope.variables word))) (variables-land frame.variables tree.globals word t own)
    where
      named : (o : Outcome Target) → Holds (LandsAt frame.variables word) o → Holds (Lands frame.variables) o
      named (Gives target) lands = lands-named frame.variables word target lands
      named Divides lands = tt
      named Undefined lands = absurd lands
  place-gives (Unary Deref a) t takes has =
      let operand = operand-of (type_of (declared_in tree frame.function) a) t has in
      then-holds (λ v. v.type ≡ operand.0) (Lands frame.variables) pointed_target (value_of scope a) (typed-gives a operand.0 (takes-later frame.function.body (Unary Deref a) (parts_of a) takes) operand.1)
      (λ v same. pointed-holds v frame.variables (ap (λ t. t.pointer) same ∙ operand.2))
  place-gives _ t takes has = absurd cc

  -- the place of a result has a target
  pub result-gives : (place : Option Expr) (arguments : List Expr) (result : Option CType) → Takes frame.function.body (flat_map parts_of (expr_if place ++ arguments)) → result_fits (declared_in tree frame.function) place result ≡ true →
      Holds (λ target. (is_some target ≡ is_some place) × IfLands frame.variables target) (result_target scope place)
  result-gives None arguments result takes fit = (refl, tt)
  result-gives (Some place) arguments None takes fit = absurd cc
  result-gives (Some place) arguments (Some from) takes fit =
      let typed = has-type (place_type (declared_in tree frame.function) place) (converts from) fit in
      then-holds (Lands frame.variables) _ (λ target. Gives (Some target)) (target_of scope place) (place-gives place typed.0 (takes-first frame.function.body place arguments takes) typed.1) (λ target lands. (refl, lands))

  pub arguments-give : (types : List CType) (arguments : List Expr) → Takes frame.function.body (flat_map parts_of arguments) → fit_all (declared_in tree frame.function) types arguments ≡ true →
      Holds (SameLength types) (arguments_of scope types arguments)
  arguments-give [] [] takes fit = tt
  arguments-give (type ∷ types) (e ∷ es) takes fit =
      let (first, others) = and_parts (fits (declared_in tree frame.function) type e) (fit_all (declared_in tree frame.function) types es) fit in
      then-holds Any (SameLength (type ∷ types)) (λ v. and_then (λ vs. Gives (converted type v ∷ vs)) (arguments_of scope types es)) (value_of scope e) (fitting-gives e type (takes-first frame.function.body e es takes) first)
      (λ v is. then-holds (SameLength types) (SameLength (type ∷ types)) (λ vs. Gives (converted type v ∷ vs)) (arguments_of scope types es) (arguments-give types es (takes-others frame.function.body e es takes) others) (λ vs same. same))
  arguments-give (type ∷ types) [] takes fit = absurd cc
  arguments-give [] (e ∷ es) takes fit = absurd cc
