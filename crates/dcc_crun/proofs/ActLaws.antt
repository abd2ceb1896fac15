-- What the actions of points do that read and write nothing.
use Rattle.std.proofs.Common.{◌≡◌, ℕ, Bool, true, false, List, Option, Some, None, refl, sym, ap, ◌∙◌, subst}
use Rattle.std.specs.Prelude.{if◌then◌else◌, Result, Ok, Err, Vec}
use Rattle.std.specs.Global.{Global}
use Rattle.dcc_run.specs.End.{Stuck as stuck}
use Rattle.dcc_c.specs.declared.syntax.Base.TheVariants.{Uint}
use Rattle.dcc_c.specs.Types.{plain}
use Rattle.dcc_c.specs.Tree.{Expr, Assign, Return, Tree}
use Rattle.dcc_c.specs.Value.{Value, Outcome, Gives, Divides, Undefined, and_then, given, is_zero, converted, value_of}
use Rattle.dcc_c.specs.Run.{Continuation, State, goes_on, on, scope_of, after_goto, jump_step, stmt_step}
use Rattle.dcc_value.specs.declared.value.NoValue.{NoValue}
use Rattle.dcc_value.specs.declared.value.NoValue.TheVariants.{Divides as Faults, Undefined as Meaningless}
use Rattle.dcc_value.specs.declared.expression.Resolved.{Resolved}
use Rattle.dcc_prepare.specs.declared.program.Case.{Case}
use Rattle.dcc_prepare.specs.declared.program.Action.{Action}
use Rattle.dcc_prepare.specs.declared.program.Action.TheVariants.{Assign as Assigns, Test, Switch, Goto, Return as Returns}
use Rattle.dcc_prepare.specs.declared.program.Procedure.{Procedure}
use Rattle.dcc_prepare.specs.declared.program.Program.{Program}
use Rattle.dcc_crun.specs.declared.moment.Moment.{Moment}
use Rattle.dcc_value.specs.Evaluation.{nothing_of, outcome_of, itself}
use Rattle.dcc_value.specs.Resolved.{Stands, evaluated}
use Rattle.dcc_prepare.specs.Points.{Goes, MayGo, StandsIf, label_point, point_named, case_point, IsAssign, IsTest, IsSwitch, IsGoto, IsReturn, Acts}
use Rattle.dcc_prepare.specs.Programs.{IsProcedure}
use Rattle.dcc_crun.specs.Standing.{IsRunning}
use Rattle.dcc_crun.specs.Doing.{scene_in, AreGlobals, names_at, IsQuiet, end_at, IsLed, IsEnded, IsStood, Keeps, Stays, StepsAside, Performs}
use Rattle.dcc_prepare.proofs.LabelLaws.{label_point-named}
use Rattle.dcc_crun.proofs.MomentLaws.{value_here, ended, goes_further}

-- the moment, where it goes on at another point
abbrev pub moved : Moment → ℕ → Moment
moved m at = record m { call = record m.call { at = at } }

pub running_moved : (tree : Tree) (points : ℕ → List Continuation) (m : Moment) (s : State) (at : ℕ) → IsRunning tree points m s → IsRunning tree points (moved m at) s
running_moved tree points m s at state = record {
  call = record { function = state.call.function; base = state.call.base; variables = state.call.variables; declared = state.call.declared };
  waiting = state.waiting;
  fill = state.fill;
  memory = state.memory;
  end = state.end;
}

-- the text may go on elsewhere
pub running_on : (tree : Tree) (points : ℕ → List Continuation) (m : Moment) (s : State) (rest : Continuation) → IsRunning tree points m s → IsRunning tree points m (goes_on rest s)
running_on tree points m s rest state =
    record { call = state.call; waiting = state.waiting; fill = state.fill; memory = state.memory; end = state.end }

-- the moment goes on at a point of the text
pub stood_at : (tree : Tree) (points : ℕ → List Continuation) (m : Moment) (s now : State) (at : ℕ) → IsRunning tree points m now →
    Goes tree (points m.call.procedure) at now.rest → IsQuiet s now → IsStood tree points (moved m at) s now
stood_at tree points m s now at state goes quiet = record {
  stood = record { end = state.end; going = λ runs. record { state = running_moved tree points m now at state; rest = goes } };
  quiet = quiet;
}

-- Assignments.

pub assigned : (program : Program) (procedure : Procedure) (line : ℕ) (action : Action) (m mid : Moment) (tree : Tree)
    (points : ℕ → List Continuation) (s now : State) (place e : Resolved) (next : ℕ) (r : Result (Unit {0}) NoValue) →
    Performs program procedure line action m tree points s now → action ≡ Assigns place e next →
    ((t : State) (place_expr expr : Expr) → AreGlobals tree program.globals.items → IsRunning tree points m t →
    Stands (names_at tree t) place_expr place → Stands (names_at tree t) expr e →
    Keeps tree points line r mid t (stmt_step tree (Assign place_expr expr) line t)) →
    StepsAside m mid → Stays tree points line r (moved mid next) s now
assigned program procedure line action m mid tree points s now place e next r call is made aside =
    let acts : IsAssign tree s.frame.function (points m.call.procedure) call.own line place e next =
    subst (λ (a : Action). Acts tree s.frame.function (points m.call.procedure) procedure.labels.items call.own line a) is call.acts in
    let t : State = goes_on acts.to s in
    let step : State = stmt_step tree (Assign acts.place_expr acts.expr) line t in
    let kept = made t acts.place_expr acts.expr call.program_is.globals (running_on tree points m s acts.to call.state) acts.place_stands acts.stands in
    subst (λ (u : State). Stays tree points line r (moved mid next) s u) (sym (call.is ∙ acts.does s))
    (finish r step acts.to acts.goes refl kept)
  where
    finish : (r : Result (Unit {0}) NoValue) (step : State) (to : Continuation) → Goes tree (points m.call.procedure) next to →
        (goes_on to s).rest ≡ to → Keeps tree points line r mid (goes_on to s) step → Stays tree points line r (moved mid next) s step
    finish (Ok a) step to goes same kept =
        stood_at tree points mid s step next kept.state
        (subst (λ k. Goes tree (points mid.call.procedure) next k) (sym kept.rest)
        (subst (λ p. Goes tree (points p) next to) (sym aside.procedure) goes))
        (record { input = kept.quiet.input; events = kept.quiet.events })
    finish (Err why) step to goes same kept = record { is = kept.is; quiet = record { input = kept.quiet.input; events = kept.quiet.events } }

-- Jumps to a point.

abbrev pub Moves : Tree → (ℕ → List Continuation) → ℕ → Result ℕ NoValue → Moment → State → State → Type 0
Moves tree points line (Ok at) m s now = IsStood tree points (moved m at) s now
Moves tree points line (Err why) m s now = IsEnded s now (end_at line why)

-- what an evaluation comes to that gives a point
gives_point : (o : Outcome Value) (f : Value → ℕ) (r : Result ℕ NoValue) → outcome_of itself r ≡ and_then (λ v. Gives (f v)) o →
    elim r as (λ (x : Result ℕ NoValue). Type 0) [ Ok at ↦ (v : Value) × (o ≡ Gives v) × (at ≡ f v) | Err why ↦ o ≡ nothing_of why ]
gives_point (Gives v) f (Ok at) is = (v, refl, cc)
gives_point Divides f (Ok at) is = cc
gives_point Undefined f (Ok at) is = cc
gives_point (Gives v) f (Err Faults) is = cc
gives_point (Gives v) f (Err Meaningless) is = cc
gives_point Divides f (Err Faults) is = refl
gives_point Divides f (Err Meaningless) is = cc
gives_point Undefined f (Err Faults) is = cc
gives_point Undefined f (Err Meaningless) is = refl

choice_goes : (tree : Tree) (points : List Continuation) (b : Bool) (first second : ℕ) (one other : Continuation) →
    Goes tree points first one → Goes tree points second other →
    Goes tree points (if b then second else first) (if b then other else one)
choice_goes tree points true first second one other goes away = away
choice_goes tree points false first second one other goes away = goes

-- an evaluation, and then a point that depends on its value
evaluated_to : (program : Program) (m : Moment) (tree : Tree) (points : ℕ → List Continuation) (s now before : State) (line : ℕ) (e : Resolved)
    (expr : Expr) (f : Value → ℕ) (to : Value → Continuation) (r : Result ℕ NoValue) →
    AreGlobals tree program.globals.items → IsRunning tree points m s → Stands (names_at tree s) expr e →
    before.input ≡ s.input → before.events ≡ s.events →
    ((v : Value) → Goes tree (points m.call.procedure) (f v) (to v)) →
    now ≡ on (value_of (scope_of tree s) expr) line before (λ v. goes_on (to v) s) →
    outcome_of itself r ≡ and_then (λ v. Gives (f v)) (evaluated (scene_in m program.globals.items) e) → Moves tree points line r m s now
evaluated_to program m tree points s now before line e expr f to (Ok at) globals state stands input events goes is given =
    let found = gives_point (evaluated (scene_in m program.globals.items) e) f (Ok at) given in
    let value = sym (value_here tree points program.globals.items m s expr e globals state stands) ∙ found.1 in
    let after : State = goes_on (to found.0) s in
    let same : now ≡ after = is ∙ goes_further (value_of (scope_of tree s) expr) found.0 line before _ value in
    subst (λ (u : State). IsStood tree points (moved m at) s u) (sym same)
    (stood_at tree points m s after at (running_on tree points m s (to found.0) state)
    (subst (λ p. Goes tree (points m.call.procedure) p (to found.0)) (sym found.2) (goes found.0)) (record { input = refl; events = refl }))
evaluated_to program m tree points s now before line e expr f to (Err why) globals state stands input events goes is given =
    let none = gives_point (evaluated (scene_in m program.globals.items) e) f (Err why) given in
    let one = ended (value_of (scope_of tree s) expr) why line before (λ v. goes_on (to v) s) (sym (value_here tree points program.globals.items m s expr e globals state stands) ∙ none) in
    subst (λ (u : State). IsEnded s u (end_at line why)) (sym is)
    (record { is = one.is; quiet = record { input = one.quiet.input ∙ input; events = one.quiet.events ∙ events } })

pub tested : (program : Program) (procedure : Procedure) (line : ℕ) (action : Action) (m : Moment) (tree : Tree)
    (points : ℕ → List Continuation) (s now : State) (e : Resolved) (first second : ℕ) (r : Result ℕ NoValue) →
    Performs program procedure line action m tree points s now → action ≡ Test e first second →
    outcome_of itself r ≡ and_then (λ v. Gives (if is_zero v then second else first)) (evaluated (scene_in m program.globals.items) e) →
    Moves tree points line r m s now
tested program procedure line action m tree points s now e first second r call is given =
    let acts : IsTest tree s.frame.function (points m.call.procedure) call.own line e first second =
    subst (λ (a : Action). Acts tree s.frame.function (points m.call.procedure) procedure.labels.items call.own line a) is call.acts in
    evaluated_to program m tree points s now (goes_on (acts.following s) s) line e acts.expr (λ v. if is_zero v then second else first) (λ v. if is_zero v then acts.if_no else acts.if_yes) r
    call.program_is.globals call.state acts.stands refl refl
    (λ v. choice_goes tree (points m.call.procedure) (is_zero v) first second acts.if_yes acts.if_no acts.goes_yes acts.goes_no)
    (call.is ∙ acts.does s) given

pub switched : (program : Program) (procedure : Procedure) (line : ℕ) (action : Action) (m : Moment) (tree : Tree)
    (points : ℕ → List Continuation) (s now : State) (e : Resolved) (cases : Vec Case Global) (otherwise : ℕ) (r : Result ℕ NoValue) →
    Performs program procedure line action m tree points s now → action ≡ Switch e cases otherwise →
    outcome_of itself r ≡ and_then (λ v. Gives (case_point cases.items (converted (plain Uint) v).bits otherwise)) (evaluated (scene_in m program.globals.items) e) →
    Moves tree points line r m s now
switched program procedure line action m tree points s now e cases otherwise r call is given =
    let acts : IsSwitch tree s.frame.function (points m.call.procedure) call.own line e cases.items otherwise =
    subst (λ (a : Action). Acts tree s.frame.function (points m.call.procedure) procedure.labels.items call.own line a) is call.acts in
    evaluated_to program m tree points s now (goes_on acts.following s) line e acts.expr (λ v. case_point cases.items (converted (plain Uint) v).bits otherwise) (λ v. acts.to (converted (plain Uint) v).bits) r
    call.program_is.globals call.state acts.stands refl refl
    (λ v. acts.goes (converted (plain Uint) v).bits)
    (call.is ∙ acts.does s) given

jumped : (tree : Tree) (points : ℕ → List Continuation) (m : Moment) (s now : State) (line : ℕ) (following : Continuation) (o : Option ℕ) (k : Option Continuation)
    (r : Result ℕ NoValue) → MayGo tree (points m.call.procedure) o k → IsRunning tree points m s → outcome_of itself r ≡ given o →
    now ≡ jump_step k line (goes_on following s) → Moves tree points line r m s now
jumped tree points m s now line following (Some p) (Some k) (Ok at) may state is same =
    let here : at ≡ p = cc in
    subst (λ (u : State). IsStood tree points (moved m at) s u) (sym same)
    (stood_at tree points m s (goes_on k s) at (running_on tree points m s k state)
    (subst (λ q. Goes tree (points m.call.procedure) q k) (sym here) may) (record { input = refl; events = refl }))
jumped tree points m s now line following (Some p) (Some k) (Err Faults) may state is same = cc
jumped tree points m s now line following (Some p) (Some k) (Err Meaningless) may state is same = cc
jumped tree points m s now line following (Some p) None r may state is same = absurd may
jumped tree points m s now line following None (Some k) r may state is same = absurd may
jumped tree points m s now line following None None (Ok at) may state is same = cc
jumped tree points m s now line following None None (Err Faults) may state is same = cc
jumped tree points m s now line following None None (Err Meaningless) may state is same =
    subst (λ (u : State). IsEnded s u (stuck line)) (sym same) (record { is = refl; quiet = record { input = refl; events = refl } })

pub went : (program : Program) (procedure : Procedure) (line : ℕ) (action : Action) (m : Moment) (tree : Tree)
    (points : ℕ → List Continuation) (s now : State) (number : ℕ) (r : Result ℕ NoValue) →
    Performs program procedure line action m tree points s now → action ≡ Goto number →
    outcome_of itself r ≡ given (label_point procedure.labels.items number) → Moves tree points line r m s now
went program procedure line action m tree points s now number r call is found =
    let acts : IsGoto tree procedure.labels.items call.own line number =
    subst (λ (a : Action). Acts tree s.frame.function (points m.call.procedure) procedure.labels.items call.own line a) is call.acts in
    jumped tree points m s now line acts.following (point_named procedure.labels.items acts.word) (after_goto s.frame.function acts.word) r
    (call.procedure_is.labels acts.word) call.state
    (found ∙ ap given (label_point-named procedure.labels.items acts.word number acts.label))
    (call.is ∙ acts.does s)

-- Returns.

pub returned : (program : Program) (procedure : Procedure) (line : ℕ) (action : Action) (m mid : Moment) (tree : Tree)
    (points : ℕ → List Continuation) (s now : State) (e : Option Resolved) →
    Performs program procedure line action m tree points s now → action ≡ Returns e →
    ((t : State) (expr : Option Expr) → AreGlobals tree program.globals.items → IsRunning tree points m t →
    IsProcedure tree t.frame.function (points m.call.procedure) procedure → StandsIf (names_at tree t) expr e →
    IsLed tree points mid t (stmt_step tree (Return expr) line t)) → IsStood tree points mid s now
returned program procedure line action m mid tree points s now e call is made =
    let acts : IsReturn tree s.frame.function call.own line e =
    subst (λ (a : Action). Acts tree s.frame.function (points m.call.procedure) procedure.labels.items call.own line a) is call.acts in
    let t : State = goes_on acts.following s in
    let led = made t acts.expr call.program_is.globals (running_on tree points m s acts.following call.state) call.procedure_is acts.stands in
    subst (λ (u : State). IsStood tree points mid s u) (sym (call.is ∙ acts.does s))
    (record { stood = record { end = led.going.state.end; going = λ runs. led.going }; quiet = record { input = led.quiet.input; events = led.quiet.events } })
