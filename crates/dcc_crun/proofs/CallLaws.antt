-- The variables and the memory of a call that begins are those of the text.
use Rattle.std.proofs.Common.{◌≡◌, ℕ, suc, ◌+◌, ◌%◌, Bool, List, [], ◌∷◌, ◌++◌, length, map, Option, Some, None, refl, sym, ap, ◌∙◌, subst, arith}
use Rattle.std.specs.Prelude.{option_map, is_some}
use Rattle.std.proofs.lemmas.List.{map-append}
use Rattle.dcc_c.specs.declared.syntax.Base.TheVariants.{Int}
use Rattle.dcc_c.specs.Types.{size_of}
use Rattle.dcc_c.specs.Memory.{store}
use Rattle.dcc_c.specs.Tree.{Variable as DeclaredVariable, Function}
use Rattle.dcc_c.specs.Typing.{Declared}
use Rattle.dcc_c.specs.Placement.{params_of_call, locals_of_call}
use Rattle.dcc_c.specs.Value.{Value, number, converted, Storage, Binding, declared_by}
use Rattle.dcc_c.specs.Run.{storage_of as run_storage, variable_binding, first_binding, param_bindings, local_bindings, frame_of, with_arguments}
use Rattle.dcc_value.specs.declared.value.Value.{Value as Held}
use Rattle.dcc_value.specs.declared.variable.Binding.{Binding as Bound}
use Rattle.dcc_prepare.specs.declared.program.Variable.{Variable}
use Rattle.dcc_value.specs.Evaluation.{typed, bindings_named, binding_named, storage_of as kept_as}
use Rattle.dcc_prepare.specs.Points.{declared_with, locals_declared}
use Rattle.dcc_prepare.specs.Programs.{place_in, kind_of, declared_kind, Kind, AreVariables}
use Rattle.dcc_prepare.specs.Frames.{holding, params_holding, locals_holding, with_argument, arguments_put}

-- One variable.

-- a variable of the code that is that of the text, at the places of two calls
record IsOne (v : DeclaredVariable) (x : Variable) (first here : Option ℕ) (base : ℕ) : Type 0 where
  kind : kind_of x ≡ declared_kind v
  at_first : place_in 0 x ≡ first
  at_here : place_in base x ≡ here

first_cons : {X : Type 0} (x y : X) (xs ys : List X) → x ∷ xs ≡ y ∷ ys → x ≡ y
first_cons x y xs ys is = cc

rest_cons : {X : Type 0} (x y : X) (xs ys : List X) → x ∷ xs ≡ y ∷ ys → xs ≡ ys
rest_cons x y xs ys is = cc

storage_same : (place : Option ℕ) (bits : ℕ) →
    kept_as (is_some place) (elim place [ Some at ↦ at | None ↦ bits ]) ≡ run_storage place bits
storage_same None bits = refl
storage_same (Some at) bits = refl

binding_same : (v : DeclaredVariable) (x : Variable) (first here : Option ℕ) (base bits : ℕ) → IsOne v x first here base →
    binding_named v.name (holding base bits x) ≡ variable_binding v here bits
binding_same v x first here base bits one =
    let make : Kind → Storage → Binding = λ kind storage. record { name = v.name; type = kind.type; is_array = kind.is_array; storage = storage } in
    ap (λ k. make k (kept_as (is_some (place_in base x)) (elim (place_in base x) [ Some at ↦ at | None ↦ bits ]))) one.kind
    ∙ ap (make (declared_kind v)) (storage_same (place_in base x) bits ∙ ap (λ p. run_storage p bits) one.at_here)

placed_same : (base : ℕ) (offset : Option ℕ) →
    is_some (option_map (λ o. (base + o) % 65536) offset) ≡ is_some (option_map (λ o. (0 + o) % 65536) offset)
placed_same base None = refl
placed_same base (Some o) = refl

declared_parts : (v : DeclaredVariable) (place : Option ℕ) (bits : ℕ) →
    declared_by (variable_binding v place bits) ≡ record { name = v.name; type = v.type; is_array = is_some v.len; is_placed = is_some place }
declared_parts v None bits = refl
declared_parts v (Some at) bits = refl

declared_same : (v : DeclaredVariable) (x : Variable) (first here : Option ℕ) (base bits : ℕ) → IsOne v x first here base →
    declared_by (variable_binding v here bits) ≡ record { name = v.name; type = v.type; is_array = is_some v.len; is_placed = is_some first }
declared_same v x first here base bits one =
    let make : Bool → Declared = λ placed. record { name = v.name; type = v.type; is_array = is_some v.len; is_placed = placed } in
    declared_parts v here bits
    ∙ ap make (ap is_some (sym one.at_here) ∙ placed_same base x.offset ∙ ap is_some one.at_first)

-- Parameters.

pub params_named : (declared : List DeclaredVariable) (xs : List Variable) (firsts heres : List (Option ℕ)) (base : ℕ) (arguments : List Held) →
    map kind_of xs ≡ map declared_kind declared → map (place_in 0) xs ≡ firsts → map (place_in base) xs ≡ heres →
    bindings_named (declared_with declared firsts) (params_holding base xs arguments) ≡ param_bindings declared heres (map typed arguments)
params_named [] [] firsts heres base arguments kinds first here = subst (λ hs. [] ≡ param_bindings [] hs (map typed arguments)) here refl
params_named [] (x ∷ xs) firsts heres base arguments kinds first here = cc
params_named (v ∷ declared) [] firsts heres base arguments kinds first here = cc
params_named (v ∷ declared) (x ∷ xs) [] heres base arguments kinds first here = cc
params_named (v ∷ declared) (x ∷ xs) (p ∷ firsts) [] base arguments kinds first here = cc
params_named (v ∷ declared) (x ∷ xs) (p ∷ firsts) (q ∷ heres) base [] kinds first here = refl
params_named (v ∷ declared) (x ∷ xs) (p ∷ firsts) (q ∷ heres) base (a ∷ arguments) kinds first here =
    let one : IsOne v x p q base = record { kind = first_cons _ _ _ _ kinds; at_first = first_cons _ _ _ _ first; at_here = first_cons _ _ _ _ here } in
    ap (λ b. b ∷ bindings_named (declared_with declared firsts) (params_holding base xs arguments)) (binding_same v x p q base a.bits one)
    ∙ ap (λ bs. variable_binding v q a.bits ∷ bs) (params_named declared xs firsts heres base arguments (rest_cons _ _ _ _ kinds) (rest_cons _ _ _ _ first) (rest_cons _ _ _ _ here))

pub params_declared : (declared : List DeclaredVariable) (xs : List Variable) (firsts heres : List (Option ℕ)) (base : ℕ) (arguments : List Value) →
    map kind_of xs ≡ map declared_kind declared → map (place_in 0) xs ≡ firsts → map (place_in base) xs ≡ heres →
    length arguments ≡ length declared →
    map declared_by (param_bindings declared heres arguments) ≡ declared_with declared firsts
params_declared [] [] firsts heres base arguments kinds first here same = subst (λ hs. map declared_by (param_bindings [] hs arguments) ≡ []) here refl
params_declared [] (x ∷ xs) firsts heres base arguments kinds first here same = cc
params_declared (v ∷ declared) [] firsts heres base arguments kinds first here same = cc
params_declared (v ∷ declared) (x ∷ xs) [] heres base arguments kinds first here same = cc
params_declared (v ∷ declared) (x ∷ xs) (p ∷ firsts) [] base arguments kinds first here same = cc
params_declared (v ∷ declared) (x ∷ xs) (p ∷ firsts) (q ∷ heres) base [] kinds first here same = absurd (omega arith)
params_declared (v ∷ declared) (x ∷ xs) (p ∷ firsts) (q ∷ heres) base (a ∷ arguments) kinds first here same =
    let one : IsOne v x p q base = record { kind = first_cons _ _ _ _ kinds; at_first = first_cons _ _ _ _ first; at_here = first_cons _ _ _ _ here } in
    ap (λ d. d ∷ map declared_by (param_bindings declared heres arguments)) (declared_same v x p q base a.bits one)
    ∙ ap (λ (ds : List Declared). record { name = v.name; type = v.type; is_array = is_some v.len; is_placed = is_some p } ∷ ds) (params_declared declared xs firsts heres base arguments (rest_cons _ _ _ _ kinds) (rest_cons _ _ _ _ first) (rest_cons _ _ _ _ here) (omega arith))

-- Local variables.

pub locals_named : (declared : List DeclaredVariable) (xs : List Variable) (firsts heres : List (Option ℕ)) (base fill : ℕ) →
    map kind_of xs ≡ map declared_kind declared → map (place_in 0) xs ≡ firsts → map (place_in base) xs ≡ heres →
    bindings_named (declared_with declared firsts) (locals_holding base fill xs) ≡ local_bindings fill declared heres
locals_named [] [] firsts heres base fill kinds first here = subst (λ hs. [] ≡ local_bindings fill [] hs) here refl
locals_named [] (x ∷ xs) firsts heres base fill kinds first here = cc
locals_named (v ∷ declared) [] firsts heres base fill kinds first here = cc
locals_named (v ∷ declared) (x ∷ xs) [] heres base fill kinds first here = cc
locals_named (v ∷ declared) (x ∷ xs) (p ∷ firsts) [] base fill kinds first here = cc
locals_named (v ∷ declared) (x ∷ xs) (p ∷ firsts) (q ∷ heres) base fill kinds first here =
    let kind : kind_of x ≡ declared_kind v = first_cons _ _ _ _ kinds in
    let one : IsOne v x p q base = record { kind = kind; at_first = first_cons _ _ _ _ first; at_here = first_cons _ _ _ _ here } in
    let bits = (converted x.ty (number Int fill)).bits in
    ap (λ b. b ∷ bindings_named (declared_with declared firsts) (locals_holding base fill xs)) (binding_same v x p q base bits one ∙ ap (λ (k : Kind). variable_binding v q (converted k.type (number Int fill)).bits) kind)
    ∙ ap (λ bs. first_binding fill v q ∷ bs) (locals_named declared xs firsts heres base fill (rest_cons _ _ _ _ kinds) (rest_cons _ _ _ _ first) (rest_cons _ _ _ _ here))

pub locals_declared_by : (declared : List DeclaredVariable) (xs : List Variable) (firsts heres : List (Option ℕ)) (base fill : ℕ) →
    map kind_of xs ≡ map declared_kind declared → map (place_in 0) xs ≡ firsts → map (place_in base) xs ≡ heres →
    map declared_by (local_bindings fill declared heres) ≡ declared_with declared firsts
locals_declared_by [] [] firsts heres base fill kinds first here = subst (λ hs. map declared_by (local_bindings fill [] hs) ≡ []) here refl
locals_declared_by [] (x ∷ xs) firsts heres base fill kinds first here = cc
locals_declared_by (v ∷ declared) [] firsts heres base fill kinds first here = cc
locals_declared_by (v ∷ declared) (x ∷ xs) [] heres base fill kinds first here = cc
locals_declared_by (v ∷ declared) (x ∷ xs) (p ∷ firsts) [] base fill kinds first here = cc
locals_declared_by (v ∷ declared) (x ∷ xs) (p ∷ firsts) (q ∷ heres) base fill kinds first here =
    let one : IsOne v x p q base = record { kind = first_cons _ _ _ _ kinds; at_first = first_cons _ _ _ _ first; at_here = first_cons _ _ _ _ here } in
    ap (λ d. d ∷ map declared_by (local_bindings fill declared heres)) (declared_same v x p q base (converted v.type (number Int fill)).bits one)
    ∙ ap (λ (ds : List Declared). record { name = v.name; type = v.type; is_array = is_some v.len; is_placed = is_some p } ∷ ds) (locals_declared_by declared xs firsts heres base fill (rest_cons _ _ _ _ kinds) (rest_cons _ _ _ _ first) (rest_cons _ _ _ _ here))

-- The whole call.

named_append : (ds es : List Declared) (bs cs : List Bound) → length ds ≡ length bs →
    bindings_named (ds ++ es) (bs ++ cs) ≡ bindings_named ds bs ++ bindings_named es cs
named_append [] es [] cs same = refl
named_append [] es (b ∷ bs) cs same = absurd (omega arith)
named_append (d ∷ ds) es [] cs same = absurd (omega arith)
named_append (d ∷ ds) es (b ∷ bs) cs same = ap (λ l. binding_named d.name b ∷ l) (named_append ds es bs cs (omega arith))

declared_length : (declared : List DeclaredVariable) (xs : List Variable) (firsts : List (Option ℕ)) (base : ℕ) (arguments : List Held) →
    map kind_of xs ≡ map declared_kind declared → map (place_in 0) xs ≡ firsts → length arguments ≡ length declared →
    length (declared_with declared firsts) ≡ length (params_holding base xs arguments)
declared_length [] [] firsts base arguments kinds first same = refl
declared_length [] (x ∷ xs) firsts base arguments kinds first same = cc
declared_length (v ∷ declared) [] firsts base arguments kinds first same = cc
declared_length (v ∷ declared) (x ∷ xs) [] base arguments kinds first same = cc
declared_length (v ∷ declared) (x ∷ xs) (p ∷ firsts) base [] kinds first same = absurd (omega arith)
declared_length (v ∷ declared) (x ∷ xs) (p ∷ firsts) base (a ∷ arguments) kinds first same =
    ap suc (declared_length declared xs firsts base arguments (rest_cons _ _ _ _ kinds) (rest_cons _ _ _ _ first) (omega arith))

pub call_variables : (f : Function) (params locals : List Variable) (base fill : ℕ) (arguments : List Held) →
    AreVariables f.params (params_of_call f) params → AreVariables f.locals (locals_of_call f) locals →
    length arguments ≡ length f.params →
    bindings_named (locals_declared f) (params_holding base params arguments ++ locals_holding base fill locals)
    ≡ (frame_of f base fill (map typed arguments)).variables
call_variables f params locals base fill arguments first second same =
    named_append (declared_with f.params (params_of_call f 0)) (declared_with f.locals (locals_of_call f 0)) (params_holding base params arguments) (locals_holding base fill locals)
    (declared_length f.params params (params_of_call f 0) base arguments first.kinds (first.places 0) same)
    ∙ ap (λ l. l ++ bindings_named (declared_with f.locals (locals_of_call f 0)) (locals_holding base fill locals))
    (params_named f.params params (params_of_call f 0) (params_of_call f base) base arguments first.kinds (first.places 0) (first.places base))
    ∙ ap (λ l. param_bindings f.params (params_of_call f base) (map typed arguments) ++ l)
    (locals_named f.locals locals (locals_of_call f 0) (locals_of_call f base) base fill second.kinds (second.places 0) (second.places base))

pub call_declared : (f : Function) (params locals : List Variable) (base fill : ℕ) (arguments : List Value) →
    AreVariables f.params (params_of_call f) params → AreVariables f.locals (locals_of_call f) locals →
    length arguments ≡ length f.params →
    map declared_by (frame_of f base fill arguments).variables ≡ locals_declared f
call_declared f params locals base fill arguments first second same =
    map-append declared_by (param_bindings f.params (params_of_call f base) arguments) (local_bindings fill f.locals (locals_of_call f base))
    ∙ ap (λ l. l ++ map declared_by (local_bindings fill f.locals (locals_of_call f base)))
    (params_declared f.params params (params_of_call f 0) (params_of_call f base) base arguments first.kinds (first.places 0) (first.places base) same)
    ∙ ap (λ l. declared_with f.params (params_of_call f 0) ++ l)
    (locals_declared_by f.locals locals (locals_of_call f 0) (locals_of_call f base) base fill second.kinds (second.places 0) (second.places base))

-- Arguments in memory.

argument_put : (place : Option ℕ) (places : List (Option ℕ)) (a : Held) (arguments : List Value) (memory : List ℕ) →
    with_arguments places arguments (elim place [ Some at ↦ store (size_of a.ty) memory at a.bits | None ↦ memory ])
    ≡ with_arguments (place ∷ places) (typed a ∷ arguments) memory
argument_put None places a arguments memory = refl
argument_put (Some at) places a arguments memory = refl

pub arguments_in : (xs : List Variable) (places : List (Option ℕ)) (base : ℕ) (arguments : List Held) (memory : List ℕ) →
    map (place_in base) xs ≡ places → arguments_put base xs arguments memory ≡ with_arguments places (map typed arguments) memory
arguments_in [] [] base arguments memory is = refl
arguments_in [] (p ∷ places) base arguments memory is = cc
arguments_in (x ∷ xs) [] base arguments memory is = cc
arguments_in (x ∷ xs) (None ∷ places) base [] memory is = refl
arguments_in (x ∷ xs) (Some at ∷ places) base [] memory is = refl
arguments_in (x ∷ xs) (p ∷ places) base (a ∷ arguments) memory is =
    arguments_in xs places base arguments (with_argument base x a memory) (rest_cons _ _ _ _ is)
    ∙ argument_put (place_in base x) places a (map typed arguments) memory
    ∙ ap (λ q. with_arguments (q ∷ places) (typed a ∷ map typed arguments) memory) (first_cons _ _ _ _ is)
