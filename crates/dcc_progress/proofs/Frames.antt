-- The variables of a call are what its function declares.
use Rattle.std.proofs.Common.{◌≡◌, ℕ, ◌+◌, ◌*◌, Bool, true, false, ◌||◌, not, ◌%◌, List, [], ◌∷◌, ◌++◌, map, Option, Some, None, refl, sym, ap, ◌∙◌, subst, append_assoc}
use Rattle.std.specs.Prelude.{is_some, if◌then◌else◌}
use Rattle.std.proofs.lemmas.Bool.{or_right}
use Rattle.std.proofs.lemmas.List.{map-append}
use Rattle.dcc_c.specs.Tree.{Lines, Global, Variable, Function, Tree}
use Rattle.dcc_c.specs.Typing.{Declared}
use Rattle.dcc_c.specs.Placement.{is_auto, is_register, bytes_of, below, takes_address, wants_place, param_places, local_places, params_of_call, locals_of_call}
use Rattle.dcc_c.specs.Value.{Value, Binding, declared_by, after_assignment, Target, ToVariable, ToMemory}
use Rattle.dcc_c.specs.Rules.{declared_param, declared_local, declared_global, declared_in}
use Rattle.dcc_c.specs.Run.{Frame, global_binding, storage_of, local_bindings, param_bindings, frame_of}
use Rattle.dcc_c.proofs.TypingLaws.{ArePlaced}
use Rattle.dcc_progress.proofs.Declarations.{IsAs, AreAs, as-append}
use Rattle.dcc_progress.proofs.Known.{AreSingle, AreStored, IsKnown}

-- as many of both
abbrev pub SameLength : {A B : Type 0} → List A → List B → Type 0
SameLength [] [] = Unit {0}
SameLength (x ∷ xs) (y ∷ ys) = SameLength xs ys
SameLength (x ∷ xs) [] = ⊥
SameLength [] (y ∷ ys) = ⊥

pub length-map : {A B C : Type 0} (g : A → B) (xs : List A) (ys : List C) → SameLength (map g xs) ys → SameLength xs ys
length-map g [] [] same = tt
length-map g (x ∷ xs) (y ∷ ys) same = length-map g xs ys same
length-map g (x ∷ xs) [] same = absurd same
length-map g [] (y ∷ ys) same = absurd same

-- what a function declares for itself
abbrev pub own_declared : Function → List Declared
own_declared f = map declared_param f.params ++ map declared_local f.locals

-- The call is one of a function of the text, with the variables that it declares.
pub record IsFrame (tree : Tree) (frame : Frame) : Type 0 where
  pub known : IsKnown tree frame.function
  pub variables : AreAs frame.function.body (own_declared frame.function) (map declared_by frame.variables)

-- the call's variables stay what they are, whatever the target takes
abbrev pub Lands : List Binding → Target → Type 0
Lands variables (ToVariable word) = (v : Value) → map declared_by (after_assignment variables word v) ≡ map declared_by variables
Lands variables (ToMemory type at) = Unit {0}

abbrev pub IfLands : List Binding → Option Target → Type 0
IfLands variables None = Unit {0}
IfLands variables (Some target) = Lands variables target

-- Parameters.

module _ (body : Lines) (v : Variable) (bits : ℕ) (single : v.len ≡ None) where
  param-as : (place : Option ℕ) → (takes_address body v.name ≡ true → not (is_register v.class) ≡ true → is_some place ≡ true) →
      IsAs body (declared_param v) (declared_by (record { name = v.name; type = v.type; is_array = is_some v.len; storage = storage_of place bits }))
  param-as None placed = record {
    name = refl;
    type = refl;
    array = refl;
    address = λ taken free. placed taken free;
    stored = λ array. let no : false ≡ true = ap is_some (sym single) ∙ array in absurd cc;
  }
  param-as (Some at) placed = record {
    name = refl;
    type = refl;
    array = refl;
    address = λ taken free. refl;
    stored = λ array. refl;
  }

-- one parameter and the others
module _ (body : Lines) (v : Variable) (params : List Variable) (a : Value) (arguments : List Value) (single : v.len ≡ None) (here : ℕ) (past free held : List (Option ℕ)) where
  next-as : (register placed : Bool) → is_register v.class ≡ register → (takes_address body v.name ≡ true → placed ≡ true) →
      AreAs body (map declared_param params) (map declared_by (param_bindings params past arguments)) →
      AreAs body (map declared_param params) (map declared_by (param_bindings params held arguments)) →
      AreAs body (map declared_param params) (map declared_by (param_bindings params free arguments)) →
      AreAs body (map declared_param (v ∷ params)) (map declared_by (param_bindings (v ∷ params) (if register then None ∷ past else if placed then Some here ∷ held else None ∷ free) (a ∷ arguments)))
  next-as true placed is taken first second third =
      (param-as body v a.bits single None (λ t f. let no : not true ≡ true = ap not (sym is) ∙ f in absurd cc), first)
  next-as false true is taken first second third = (param-as body v a.bits single (Some here) (λ t f. refl), second)
  next-as false false is taken first second third =
      (param-as body v a.bits single None (λ t f. let no : false ≡ true = taken t in absurd cc), third)

params-as : (body : Lines) (base number : ℕ) (placed : Bool) (params : List Variable) (arguments : List Value) → AreSingle params → SameLength params arguments →
    AreAs body (map declared_param params) (map declared_by (param_bindings params (param_places body base number placed params) arguments))
params-as body base number placed [] [] single same = tt
params-as body base number placed (v ∷ params) (a ∷ arguments) single same =
    let more : (n : ℕ) (p : Bool) → AreAs body (map declared_param params) (map declared_by (param_bindings params (param_places body base n p params) arguments)) =
    λ n p. params-as body base n p params arguments single.1 same
    in
    next-as body v params a arguments single.0 ((base + 2 * number) % 65536) (param_places body base number placed params) (param_places body base (number + 1) false params) (param_places body base (number + 1) true params) (is_register v.class) (placed || wants_place body v) refl (λ taken. or_right placed (wants_place body v) (or_right (is_auto v.class) (takes_address body v.name) taken)) (more number placed) (more (number + 1) true) (more (number + 1) false)
params-as body base number placed (v ∷ params) [] single same = absurd same
params-as body base number placed [] (a ∷ arguments) single same = absurd same

-- Local variables.

module _ (body : Lines) (fill : ℕ) (v : Variable) (locals : List Variable) (stored : is_some v.len ≡ true → is_auto v.class ≡ true) (here : ℕ) (held free : List (Option ℕ)) where
  local-as : (auto : Bool) → is_auto v.class ≡ auto →
      AreAs body (map declared_local locals) (map declared_by (local_bindings fill locals held)) →
      AreAs body (map declared_local locals) (map declared_by (local_bindings fill locals free)) →
      AreAs body (map declared_local (v ∷ locals)) (map declared_by (local_bindings fill (v ∷ locals) (if auto then Some here ∷ held else None ∷ free)))
  local-as true is first second =
      (record { name = refl; type = refl; array = refl; address = λ taken placed. refl; stored = λ array. refl }, first)
  local-as false is first second =
      (record { name = refl; type = refl; array = refl; address = λ taken placed. sym is ∙ placed; stored = λ array. sym is ∙ stored array }, second)

locals-as : (body : Lines) (fill base used : ℕ) (locals : List Variable) → AreStored locals →
    AreAs body (map declared_local locals) (map declared_by (local_bindings fill locals (local_places base used locals)))
locals-as body fill base used [] stored = tt
locals-as body fill base used (v ∷ locals) stored =
    local-as body fill v locals stored.0 (below base (used + bytes_of v.type v.len)) (local_places base (used + bytes_of v.type v.len) locals) (local_places base used locals) (is_auto v.class) refl (locals-as body fill base (used + bytes_of v.type v.len) locals stored.1) (locals-as body fill base used locals stored.1)

-- a call that begins
pub frame-begins : (tree : Tree) (f : Function) (base fill : ℕ) (arguments : List Value) → IsKnown tree f → SameLength f.params arguments → IsFrame tree (frame_of f base fill arguments)
frame-begins tree f base fill arguments known same =
    let params = param_bindings f.params (params_of_call f base) arguments in
    let locals = local_bindings fill f.locals (locals_of_call f base) in
    record {
      known = known;
      variables = subst (AreAs f.body (own_declared f)) (sym (map-append declared_by params locals)) (as-append f.body (map declared_param f.params) (map declared_by params) (map declared_local f.locals) (map declared_by locals) (params-as f.body base 0 false f.params arguments known.formed.params same) (locals-as f.body fill base 4 f.locals known.formed.locals));
    }

-- Global variables, and all that a call's expressions are evaluated over.

globals-as : (body : Lines) (globals : List Global) → AreAs body (map declared_global globals) (map declared_by (map global_binding globals))
globals-as body [] = tt
globals-as body (g ∷ globals) =
    (record { name = refl; type = refl; array = refl; address = λ taken placed. refl; stored = λ array. refl }, globals-as body globals)

pub scope-as : (tree : Tree) (frame : Frame) → IsFrame tree frame → AreAs frame.function.body (declared_in tree frame.function) (map declared_by (frame.variables ++ map global_binding tree.globals))
scope-as tree frame is =
    let f = frame.function in
    let all : AreAs f.body (own_declared f ++ map declared_global tree.globals) (map declared_by frame.variables ++ map declared_by (map global_binding tree.globals)) =
    as-append f.body (own_declared f) (map declared_by frame.variables) (map declared_global tree.globals) (map declared_by (map global_binding tree.globals)) is.variables (globals-as f.body tree.globals)
    in
    subst (λ ds. AreAs f.body ds (map declared_by (frame.variables ++ map global_binding tree.globals))) (append_assoc (map declared_param f.params) (map declared_local f.locals) (map declared_global tree.globals)) (subst (AreAs f.body (own_declared f ++ map declared_global tree.globals)) (sym (map-append declared_by frame.variables (map global_binding tree.globals))) all)

pub arrays-placed : (body : Lines) (ds : List Declared) (variables : List Binding) → AreAs body ds (map declared_by variables) → ArePlaced variables
arrays-placed body ds [] is = tt
arrays-placed body (d ∷ ds) (b ∷ variables) is = (is.0.stored, arrays-placed body ds variables is.1)
arrays-placed body [] (b ∷ variables) is = absurd is
