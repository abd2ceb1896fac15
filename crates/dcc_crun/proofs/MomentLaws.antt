-- What a moment stands for, and the scene of its expressions.
use Rattle.std.proofs.Common.{◌≡◌, ℕ, true, List, [], ◌∷◌, ◌++◌, map, refl, sym, ap, ◌∙◌, subst}
use Rattle.std.specs.Prelude.{slice_get}
use Rattle.std.specs.List.{list_all}
use Rattle.dcc_run.specs.End.{End}
use Rattle.dcc_c.specs.Tree.{Expr, Global, Tree}
use Rattle.dcc_c.specs.Typing.{Declared}
use Rattle.dcc_c.specs.Rules.{declared_global}
use Rattle.dcc_c.specs.Value.{Value, Outcome, Gives, and_then, Binding, declared_by, Scope, value_of, target_of, Target, ToVariable, ToMemory}
use Rattle.dcc_c.specs.Run.{Continuation, State, on, global_binding, scope_of, takes}
use Rattle.dcc_value.specs.declared.value.NoValue.{NoValue}
use Rattle.dcc_value.specs.declared.value.NoValue.TheVariants.{Divides as Faults, Undefined as Meaningless}
use Rattle.dcc_value.specs.declared.variable.Binding.{Binding as Bound}
use Rattle.dcc_value.specs.declared.expression.Resolved.{Resolved}
use Rattle.dcc_value.specs.declared.expression.Target.{Target as Place}
use Rattle.dcc_value.specs.declared.expression.Target.TheVariants.{Local as ToLocal, Memory as Into}
use Rattle.dcc_crun.specs.declared.moment.Moment.{Moment}
use Rattle.dcc_value.specs.Evaluation.{nothing_of, bindings_named}
use Rattle.dcc_value.specs.Resolved.{Fits, Stands, scope_over, evaluated, targeted, target_named, variables_after, memory_after}
use Rattle.dcc_prepare.specs.Points.{locals_declared}
use Rattle.dcc_crun.specs.Ending.{end_of}
use Rattle.dcc_crun.specs.Standing.{AreWaiting, IsRunning}
use Rattle.dcc_crun.specs.Doing.{scene_in, AreGlobals, names_at, IsQuiet, end_at, IsEnded}

-- The scene of expressions.

globals_declared : (gs : List Global) → map declared_by (map global_binding gs) ≡ map declared_global gs
globals_declared [] = refl
globals_declared (g ∷ gs) = ap (λ ds. declared_global g ∷ ds) (globals_declared gs)

globals_placed : (gs : List Global) → list_all (λ (d : Declared). d.is_placed) (map declared_global gs) ≡ true
globals_placed [] = refl
globals_placed (g ∷ gs) = globals_placed gs

pub fits_here : (tree : Tree) (points : ℕ → List Continuation) (globals : List Bound) (m : Moment) (s : State) →
    AreGlobals tree globals → IsRunning tree points m s → Fits (names_at tree s) (scene_in m globals)
fits_here tree points globals m s are state = record {
  locals = ap (map declared_by) state.call.variables ∙ state.call.declared;
  globals = ap (map declared_by) are ∙ globals_declared tree.globals;
  placed = globals_placed tree.globals;
}

pub scope_here : (tree : Tree) (points : ℕ → List Continuation) (globals : List Bound) (m : Moment) (s : State) →
    AreGlobals tree globals → IsRunning tree points m s → scope_over (names_at tree s) (scene_in m globals) ≡ scope_of tree s
scope_here tree points globals m s are state =
    let at : List Binding → List Binding → List ℕ → Scope = λ first second memory. record { variables = first ++ second; memory = memory } in
    ap (λ l. at l (bindings_named (names_at tree s).globals globals) m.memory.items) state.call.variables
    ∙ ap (λ l. at s.frame.variables l m.memory.items) are
    ∙ ap (λ l. at s.frame.variables (map global_binding tree.globals) l) state.memory

pub value_here : (tree : Tree) (points : ℕ → List Continuation) (globals : List Bound) (m : Moment) (s : State) (e : Expr)
    (r : Resolved) → AreGlobals tree globals → IsRunning tree points m s → Stands (names_at tree s) e r →
    evaluated (scene_in m globals) r ≡ value_of (scope_of tree s) e
value_here tree points globals m s e r are state stands =
    stands.value (scene_in m globals) (fits_here tree points globals m s are state)
    ∙ ap (λ scope. value_of scope e) (scope_here tree points globals m s are state)

pub target_here : (tree : Tree) (points : ℕ → List Continuation) (globals : List Bound) (m : Moment) (s : State) (e : Expr)
    (r : Resolved) → AreGlobals tree globals → IsRunning tree points m s → Stands (names_at tree s) e r →
    and_then (λ target. Gives (target_named (locals_declared s.frame.function) target)) (targeted (scene_in m globals) r) ≡ target_of (scope_of tree s) e
target_here tree points globals m s e r are state stands =
    stands.target (scene_in m globals) (fits_here tree points globals m s are state)
    ∙ ap (λ scope. target_of scope e) (scope_here tree points globals m s are state)

-- Outcomes.

-- an evaluation that gives nothing ends the run
pub ended : {A : Type 0} (o : Outcome A) (why : NoValue) (line : ℕ) (s : State) (next : A → State) → o ≡ nothing_of why →
    IsEnded s (on o line s next) (end_at line why)
ended o Faults line s next is =
    subst (λ o. IsEnded s (on o line s next) (end_at line Faults)) (sym is) (record { is = refl; quiet = record { input = refl; events = refl } })
ended o Meaningless line s next is =
    subst (λ o. IsEnded s (on o line s next) (end_at line Meaningless)) (sym is) (record { is = refl; quiet = record { input = refl; events = refl } })

pub goes_further : {A : Type 0} (o : Outcome A) (a : A) (line : ℕ) (s : State) (next : A → State) → o ≡ Gives a →
    on o line s next ≡ next a
goes_further o a line s next is = ap (λ o. on o line s next) is

-- the state before an ended one may be one that goes on otherwise
pub ended_from : (s t now : State) (end : End) → t.input ≡ s.input → t.events ≡ s.events → IsEnded t now end → IsEnded s now end
ended_from s t now end input events is = record { is = is.is; quiet = record { input = is.quiet.input ∙ input; events = is.quiet.events ∙ events } }

-- Variables and memory after an assignment.

pub taken : (tree : Tree) (points : ℕ → List Continuation) (m now : Moment) (s : State) (target : Place) (v : Value) →
    IsRunning tree points m s →
    bindings_named (locals_declared s.frame.function) now.call.variables.items
    ≡ variables_after (target_named (locals_declared s.frame.function) target) v (bindings_named (locals_declared s.frame.function) m.call.variables.items) →
    now.memory.items ≡ memory_after (target_named (locals_declared s.frame.function) target) v m.memory.items →
    map declared_by (bindings_named (locals_declared s.frame.function) now.call.variables.items) ≡ locals_declared s.frame.function →
    now.call.procedure ≡ m.call.procedure → now.call.base ≡ m.call.base → now.waiting.items ≡ m.waiting.items →
    now.fill ≡ m.fill → now.end ≡ m.end →
    IsRunning tree points now (takes (target_named (locals_declared s.frame.function) target) v s)
taken tree points m now s (ToLocal i) v state variables memory declared procedure base waiting fill end = record {
  call = record {
    function = ap (slice_get tree.functions) procedure ∙ state.call.function;
    base = base ∙ state.call.base;
    variables = variables ∙ ap (variables_after (target_named (locals_declared s.frame.function) (ToLocal i)) v) state.call.variables;
    declared = ap (map declared_by) (sym (variables ∙ ap (variables_after (target_named (locals_declared s.frame.function) (ToLocal i)) v) state.call.variables)) ∙ declared;
  };
  waiting = subst (λ ws. AreWaiting tree points ws s.waiting) (sym waiting) state.waiting;
  fill = fill ∙ state.fill;
  memory = memory ∙ state.memory;
  end = ap end_of end ∙ state.end;
}
taken tree points m now s (Into type at) v state variables memory declared procedure base waiting fill end = record {
  call = record {
    function = ap (slice_get tree.functions) procedure ∙ state.call.function;
    base = base ∙ state.call.base;
    variables = variables ∙ state.call.variables;
    declared = state.call.declared;
  };
  waiting = subst (λ ws. AreWaiting tree points ws s.waiting) (sym waiting) state.waiting;
  fill = fill ∙ state.fill;
  memory = memory ∙ ap (memory_after (target_named (locals_declared s.frame.function) (Into type at)) v) state.memory;
  end = ap end_of end ∙ state.end;
}

-- an assignment reads and writes nothing, and leaves how the text goes on
pub takes-quiet : (target : Target) (v : Value) (s : State) → IsQuiet s (takes target v s)
takes-quiet (ToVariable word) v s = record { input = refl; events = refl }
takes-quiet (ToMemory type at) v s = record { input = refl; events = refl }

pub takes-rest : (target : Target) (v : Value) (s : State) → (takes target v s).rest ≡ s.rest
takes-rest (ToVariable word) v s = refl
takes-rest (ToMemory type at) v s = refl

pub takes-end : (target : Target) (v : Value) (s : State) → (takes target v s).end ≡ s.end
takes-end (ToVariable word) v s = refl
takes-end (ToMemory type at) v s = refl

pub takes-function : (target : Target) (v : Value) (s : State) → (takes target v s).frame.function ≡ s.frame.function
takes-function (ToVariable word) v s = refl
takes-function (ToMemory type at) v s = refl
