-- Calls, by what is called.
use Rattle.std.proofs.Common.{◌≡◌, ℕ, List, Option, Some, refl, sym, ap, ◌∙◌, subst}
use Rattle.std.specs.Prelude.{Result, Ok, Err, option_map}
use Rattle.std.specs.Result.{IsErrAnd}
use Rattle.dcc_run.specs.End.{Stuck as stuck}
use Rattle.dcc_c.specs.Tree.{Expr, Function, Tree}
use Rattle.dcc_c.specs.Value.{Gives, Target}
use Rattle.dcc_c.specs.Dos.{Dos, dos_of}
use Rattle.dcc_c.specs.Run.{Continuation, State, scope_of, result_target, call_step, dos_or_call_step}
use Rattle.dcc_value.specs.declared.value.NoValue.{NoValue}
use Rattle.dcc_value.specs.declared.expression.Target.{Target as Place}
use Rattle.dcc_crun.specs.declared.ending.Stop.{Stop}
use Rattle.dcc_crun.specs.declared.ending.Stop.TheVariants.{Divides as HaltsDividing, Undefined as HaltsUndefined, Refused}
use Rattle.dcc_value.specs.declared.variable.Binding.{Binding as Bound}
use Rattle.dcc_value.specs.declared.expression.Resolved.{Resolved}
use Rattle.dcc_prepare.specs.declared.program.Dos.{Dos as DosCall}
use Rattle.dcc_prepare.specs.declared.program.Callee.{Callee}
use Rattle.dcc_prepare.specs.declared.program.Callee.TheVariants.{Dos as CallsDosOf, Function as CallsFunctionOf, Unknown as CallsNothing}
use Rattle.dcc_prepare.specs.declared.program.CallRow.{CallRow}
use Rattle.dcc_prepare.specs.declared.program.Action.{Action}
use Rattle.dcc_prepare.specs.declared.program.Action.TheVariants.{Pass, Assign, Call as Calls, Test, Switch, Goto, Return, Close, Stuck}
use Rattle.dcc_prepare.specs.declared.program.Program.{Program}
use Rattle.dcc_crun.specs.declared.moment.Moment.{Moment}
use Rattle.dcc_value.specs.Evaluation.{nothing_of, outcome_of}
use Rattle.dcc_value.specs.Resolved.{Names, Contents, Fits, scope_over, target_named}
use Rattle.dcc_prepare.specs.Points.{Goes, locals_declared, StandsIf, StandAll, IsCallee, dos_call}
use Rattle.dcc_crun.specs.Standing.{IsTargetIf}
use Rattle.dcc_crun.specs.Doing.{Operation, AreGlobals, scene_in, names_at, end_at, IsEnded, StepsAside, Halts, ComesTo, Kept, Stood, CallsDos, CallsFunction, CallsAny, IsNoCall}
use Rattle.dcc_crun.proofs.MomentLaws.{fits_here, scope_here, ended, goes_further}
use Rattle.dcc_crun.proofs.ActLaws.{moved, running_moved}
use Rattle.dcc_crun.proofs.ComingLaws.{From}

-- an error that is handed on
pub comes_on : (line : ℕ) (r : Result (Unit {0}) Stop) (op first done : Operation) (left taken left_now taken_now : Option (List ℕ)) (stop : Stop) →
    IsErrAnd r (λ y. y ≡ stop) → (let e : Result (Unit {0}) Stop = Err stop in ComesTo line e op first left taken left_now taken_now) →
    ComesTo line r op done left taken left_now taken_now
comes_on line (Ok a) op first done left taken left_now taken_now stop is comes = absurd is
comes_on line (Err y) op first done left taken left_now taken_now stop is comes =
    subst (λ (x : Stop). let e : Result (Unit {0}) Stop = Err x in ComesTo line e op done left taken left_now taken_now) (sym is) (same stop comes)
  where
    same : (x : Stop) → (let e : Result (Unit {0}) Stop = Err x in ComesTo line e op first left taken left_now taken_now) →
        (let e : Result (Unit {0}) Stop = Err x in ComesTo line e op done left taken left_now taken_now)
    same HaltsDividing comes = comes
    same HaltsUndefined comes = comes
    same (Refused fault) comes = comes

-- the target of a call
pub target_place : (m : Moment) (program : Program) (row : CallRow) (line : ℕ) (tree : Tree) (points : ℕ → List Continuation) (s now : State)
    (call : CallsAny m program row line tree points s now) (scene : Contents) (r : Result (Option Place) NoValue) → scene ≡ scene_in m program.globals.items →
    ((names : Names) (e : Option Expr) → StandsIf names e row.place → Fits names scene →
    outcome_of (option_map (target_named names.locals)) r ≡ result_target (scope_over names scene) e) →
    result_target (scope_of tree s) call.place ≡ outcome_of (option_map (target_named (locals_declared s.frame.function))) r
target_place m program row line tree points s now call scene r same is =
    let fits = fits_here tree points program.globals.items m s call.at.program_is.globals call.at.state in
    sym (is (names_at tree s) call.place call.place_stands (subst (Fits (names_at tree s)) (sym same) fits)
    ∙ ap (λ sc. result_target (scope_over (names_at tree s) sc) call.place) same
    ∙ ap (λ sc. result_target sc call.place) (scope_here tree points program.globals.items m s call.at.program_is.globals call.at.state))

pub target_lands : (m : Moment) (program : Program) (row : CallRow) (line : ℕ) (tree : Tree) (points : ℕ → List Continuation) (s now : State)
    (call : CallsAny m program row line tree points s now) (scene : Contents) (target : Option Place) → scene ≡ scene_in m program.globals.items →
    ((names : Names) (e : Option Expr) → StandsIf names e row.place → Fits names scene → IsTargetIf names.locals target) →
    IsTargetIf (locals_declared s.frame.function) target
target_lands m program row line tree points s now call scene target same is =
    is (names_at tree s) call.place call.place_stands
    (subst (Fits (names_at tree s)) (sym same) (fits_here tree points program.globals.items m s call.at.program_is.globals call.at.state))

pub target_ended : (m : Moment) (program : Program) (row : CallRow) (line : ℕ) (tree : Tree) (points : ℕ → List Continuation) (s now : State)
    (call : CallsAny m program row line tree points s now) (why : NoValue) → result_target (scope_of tree s) call.place ≡ nothing_of why →
    IsEnded s now (end_at line why)
target_ended m program row line tree points s now call why none =
    subst (λ (t : State). IsEnded s t (end_at line why)) (sym call.is) (ended (result_target (scope_of tree s) call.place) why line s _ none)

-- what is done where the target is known
pub calls_on : (m : Moment) (program : Program) (row : CallRow) (line : ℕ) (tree : Tree) (points : ℕ → List Continuation) (s now : State)
    (call : CallsAny m program row line tree points s now) (to : Option Target) → result_target (scope_of tree s) call.place ≡ Gives to →
    now ≡ dos_or_call_step tree (dos_of call.word) call.word to call.exprs row.depth line s
calls_on m program row line tree points s now call to is =
    call.is ∙ goes_further (result_target (scope_of tree s) call.place) to line s (λ t. dos_or_call_step tree (dos_of call.word) call.word t call.exprs row.depth line s) is

-- a DOS call, and the point after it
pub dos_from : (m mid : Moment) (program : Program) (row : CallRow) (dos : DosCall) (target : Option Place) (line : ℕ) (globals : List Bound) (arguments : List Resolved) →
    globals ≡ program.globals.items → arguments ≡ row.arguments.items →
    row.callee ≡ CallsDosOf dos → StepsAside m mid →
    ((tree : Tree) (points : ℕ → List Continuation) (s now : State) (call : CallsAny m program row line tree points s now) →
    result_target (scope_of tree s) call.place ≡ Gives (option_map (target_named (locals_declared s.frame.function)) target)) →
    ((tree : Tree) (points : ℕ → List Continuation) (s now : State) → CallsAny m program row line tree points s now → IsTargetIf (locals_declared s.frame.function) target) →
    From (CallsDos m globals dos target arguments line) (Kept mid) (CallsAny m program row line) (Stood (moved mid row.next))
dos_from m mid program row dos target line globals arguments same_globals same_arguments callee aside place lands tree points s now call =
    let to = option_map (target_named (locals_declared s.frame.function)) target in
    let is_dos : dos_of call.word ≡ Some (dos_call dos) = subst (λ (k : Callee). IsCallee tree call.word k) callee call.callee in (
      s,
      record {
        globals_are = subst (AreGlobals tree) (sym same_globals) call.at.program_is.globals;
        state = call.at.state;
        lands = lands tree points s now call;
        exprs = call.exprs;
        stand = subst (StandAll (names_at tree s) call.exprs) (sym same_arguments) call.stand;
        is = calls_on m program row line tree points s now call to (place tree points s now call)
            ∙ ap (λ (o : Option Dos). dos_or_call_step tree o call.word to call.exprs row.depth line s) is_dos;
      },
      refl,
      refl,
      λ done. record {
        end = done.0.end;
        going = λ runs. record {
          state = running_moved tree points mid now row.next done.0;
          rest =
              subst (λ k. Goes tree (points mid.call.procedure) row.next k) (sym done.1)
              (subst (λ p. Goes tree (points p) row.next s.rest) (sym aside.procedure) call.at.goes);
        };
      },
    )

-- a call of a function of the text
pub function_from : (m now_m : Moment) (program : Program) (row : CallRow) (number : ℕ) (target : Option Place) (line : ℕ) →
    row.callee ≡ CallsFunctionOf number →
    ((tree : Tree) (points : ℕ → List Continuation) (s now : State) (call : CallsAny m program row line tree points s now) →
    result_target (scope_of tree s) call.place ≡ Gives (option_map (target_named (locals_declared s.frame.function)) target)) →
    ((tree : Tree) (points : ℕ → List Continuation) (s now : State) → CallsAny m program row line tree points s now → IsTargetIf (locals_declared s.frame.function) target) →
    From (CallsFunction m program row number target line) (Stood now_m) (CallsAny m program row line) (Stood now_m)
function_from m now_m program row number target line callee place lands tree points s now call =
    let to = option_map (target_named (locals_declared s.frame.function)) target in
    let is = subst (λ (k : Callee). IsCallee tree call.word k) callee call.callee in (
      s,
      record {
        at = call.at;
        lands = lands tree points s now call;
        exprs = call.exprs;
        stand = call.stand;
        f = is.0;
        here = is.3;
        is = calls_on m program row line tree points s now call to (place tree points s now call)
            ∙ ap (λ (o : Option Dos). dos_or_call_step tree o call.word to call.exprs row.depth line s) is.1
            ∙ ap (λ (o : Option Function). call_step o (scope_of tree s) to call.exprs row.depth line s) is.2;
      },
      refl,
      refl,
      λ done. done,
    )

-- a call of nothing
pub nothing_called : (m : Moment) (program : Program) (row : CallRow) (target : Option Place) (line : ℕ) (left taken : Option (List ℕ)) →
    row.callee ≡ CallsNothing →
    ((tree : Tree) (points : ℕ → List Continuation) (s now : State) (call : CallsAny m program row line tree points s now) →
    result_target (scope_of tree s) call.place ≡ Gives (option_map (target_named (locals_declared s.frame.function)) target)) →
    Halts (CallsAny m program row line) (stuck line) left taken left taken
nothing_called m program row target line left taken callee place = record {
  ends = λ tree points s now call.
      let to = option_map (target_named (locals_declared s.frame.function)) target in
      let is = subst (λ (k : Callee). IsCallee tree call.word k) callee call.callee in
      let same = calls_on m program row line tree points s now call to (place tree points s now call)
      ∙ ap (λ (o : Option Dos). dos_or_call_step tree o call.word to call.exprs row.depth line s) is.0
      ∙ ap (λ (o : Option Function). call_step o (scope_of tree s) to call.exprs row.depth line s) is.1 in
      subst (λ (t : State). IsEnded s t (stuck line)) (sym same) (record { is = refl; quiet = record { input = refl; events = refl } });
  same_left = refl;
  same_taken = refl;
}

-- an action that is no call
pub no_call : (a : Action) → ((row : CallRow) → a ≡ Calls row → ⊥) → IsNoCall a
no_call (Pass next) other = tt
no_call (Assign place e next) other = tt
no_call (Calls row) other = other row refl
no_call (Test e first second) other = tt
no_call (Switch e cases otherwise) other = tt
no_call (Goto number) other = tt
no_call (Return e) other = tt
no_call Close other = tt
no_call Stuck other = tt
