-- What statements do, from what their parts come to.
use Rattle.std.proofs.Common.{◌≡◌, ℕ, ◌≤◌, false, List, [], ◌∷◌, ◌++◌, Option, Some, None, refl, sym, ap, ◌∙◌, subst, arith}
use Rattle.std.specs.Prelude.{if◌then◌else◌, Result, Ok, Err, option_map}
use Rattle.std.specs.Result.{IsErrAnd, IsErrOf}
use Rattle.std.proofs.lemmas.List.{same_from_push}
use Rattle.dcc_run.specs.End.{Stuck as stuck}
use Rattle.dcc_io.specs.Count.{Rose}
use Rattle.dcc_c.specs.declared.syntax.CType.{CType}
use Rattle.dcc_c.specs.Tree.{Expr, Assign, Return, Tree}
use Rattle.dcc_c.specs.Value.{Value, Outcome, Gives, and_then, converted, value_of, target_of}
use Rattle.dcc_c.specs.Run.{Continuation, State, with_end, Waiting as WaitingCall, on, scope_of, takes, result_step, back_step, is_start, give_step, stmt_step}
use Rattle.dcc_value.specs.declared.value.NoValue.{NoValue}
use Rattle.dcc_value.specs.declared.value.NoValue.TheVariants.{Divides as Faults, Undefined as Meaningless}
use Rattle.dcc_value.specs.declared.variable.Binding.{Binding as Bound}
use Rattle.dcc_value.specs.declared.expression.Resolved.{Resolved}
use Rattle.dcc_value.specs.declared.expression.Target.{Target as Place}
use Rattle.dcc_crun.specs.declared.call.Waiting.{Waiting}
use Rattle.dcc_crun.specs.declared.moment.Moment.{Moment}
use Rattle.dcc_value.specs.Evaluation.{nothing_of}
use Rattle.dcc_value.specs.Resolved.{Stands, evaluated, targeted, target_named, IsTargetIn, LandsIn}
use Rattle.dcc_prepare.specs.Points.{locals_declared, Goes, StandsIf}
use Rattle.dcc_crun.specs.declared.ending.Refusal.{Refusal}
use Rattle.dcc_crun.specs.declared.ending.Refusal.TheVariants.{Input, Output}
use Rattle.dcc_crun.specs.declared.ending.Stop.{Stop}
use Rattle.dcc_crun.specs.declared.ending.Stop.TheVariants.{Refused}
use Rattle.dcc_console.specs.Counts.{CountsFaults}
use Rattle.dcc_crun.specs.Ending.{end_of, stop_of}
use Rattle.dcc_crun.specs.Standing.{IsCallOf, IsTargetIf, IsWaiting, AreWaiting, IsRunning}
use Rattle.dcc_crun.specs.Doing.{Operation, Stays, StaysIfRefused, ComesTo, Counts, scene_in, AreGlobals, names_at, end_at, IsKept, IsEnded, Keeps, Led, StepsAside}
use Rattle.dcc_crun.proofs.MomentLaws.{fits_here, value_here, target_here, ended, goes_further, takes-quiet, takes-rest}

-- Assignments.

and_then-nothing : {A B : Type 0} (f : A → Outcome B) (why : NoValue) → and_then f (nothing_of why) ≡ nothing_of why
and_then-nothing f Faults = refl
and_then-nothing f Meaningless = refl

pub assign_ended : (tree : Tree) (points : ℕ → List Continuation) (globals : List Bound) (m : Moment) (s : State)
    (place_expr expr : Expr) (e : Resolved) (why : NoValue) (line : ℕ) → AreGlobals tree globals → IsRunning tree points m s →
    Stands (names_at tree s) expr e → nothing_of why ≡ evaluated (scene_in m globals) e →
    IsEnded s (stmt_step tree (Assign place_expr expr) line s) (end_at line why)
assign_ended tree points globals m s place_expr expr e why line are state stands is =
    ended (value_of (scope_of tree s) expr) why line s _ (sym (is ∙ value_here tree points globals m s expr e are state stands))

pub assign_untargeted : (tree : Tree) (points : ℕ → List Continuation) (globals : List Bound) (m : Moment) (s : State)
    (place_expr expr : Expr) (place e : Resolved) (v : Value) (why : NoValue) (line : ℕ) → AreGlobals tree globals →
    IsRunning tree points m s → Stands (names_at tree s) place_expr place → Stands (names_at tree s) expr e →
    Gives v ≡ evaluated (scene_in m globals) e → nothing_of why ≡ targeted (scene_in m globals) place →
    IsEnded s (stmt_step tree (Assign place_expr expr) line s) (end_at line why)
assign_untargeted tree points globals m s place_expr expr place e v why line are state place_stands stands is none =
    let names = locals_declared s.frame.function in
    let value = sym (is ∙ value_here tree points globals m s expr e are state stands) in
    let target : target_of (scope_of tree s) place_expr ≡ nothing_of why =
    sym (target_here tree points globals m s place_expr place are state place_stands)
    ∙ ap (and_then (λ t. Gives (target_named names t))) (sym none)
    ∙ and_then-nothing (λ t. Gives (target_named names t)) why in
    subst (λ now. IsEnded s now (end_at line why)) (sym (goes_further (value_of (scope_of tree s) expr) v line s _ value))
    (ended (target_of (scope_of tree s) place_expr) why line s _ target)

pub assign_made : (tree : Tree) (points : ℕ → List Continuation) (globals : List Bound) (m now : Moment) (s : State)
    (place_expr expr : Expr) (place e : Resolved) (v : Value) (to : Place) (line : ℕ) → AreGlobals tree globals →
    IsRunning tree points m s → Stands (names_at tree s) place_expr place → Stands (names_at tree s) expr e →
    Gives v ≡ evaluated (scene_in m globals) e → Gives to ≡ targeted (scene_in m globals) place →
    (IsTargetIn (locals_declared s.frame.function) to → IsRunning tree points now (takes (target_named (locals_declared s.frame.function) to) v s)) →
    IsKept tree points now s (stmt_step tree (Assign place_expr expr) line s)
assign_made tree points globals m now s place_expr expr place e v to line are state place_stands stands is lands made =
    let names = locals_declared s.frame.function in
    let value = sym (is ∙ value_here tree points globals m s expr e are state stands) in
    let target : target_of (scope_of tree s) place_expr ≡ Gives (target_named names to) =
    sym (target_here tree points globals m s place_expr place are state place_stands)
    ∙ ap (and_then (λ t. Gives (target_named names t))) (sym lands) in
    let landing : IsTargetIn names to = subst (LandsIn names) (sym lands) (place_stands.lands (scene_in m globals) (fits_here tree points globals m s are state)) in
    let is_now : stmt_step tree (Assign place_expr expr) line s ≡ takes (target_named names to) v s =
    goes_further (value_of (scope_of tree s) expr) v line s _ value ∙ goes_further (target_of (scope_of tree s) place_expr) (target_named names to) line s _ target in
    subst (λ t. IsKept tree points now s t) (sym is_now)
    (record { state = made landing; rest = takes-rest (target_named names to) v s; quiet = takes-quiet (target_named names to) v s })

-- Returns.

-- a kept state, where the text goes on at a point
pub led_from_kept : {A : Type 0} (tree : Tree) (points : ℕ → List Continuation) (line : ℕ) (r : Result A NoValue) (mid now : Moment) (s after : State) →
    Goes tree (points mid.call.procedure) mid.call.at s.rest → StepsAside mid now →
    Keeps tree points line r now s after → Led tree points line r now s after
led_from_kept tree points line (Ok a) mid now s after goes aside kept = record {
  going = record {
    state = kept.state;
    rest =
        subst (λ k. Goes tree (points now.call.procedure) now.call.at k) (sym kept.rest)
        (subst (λ p. Goes tree (points p) now.call.at s.rest) (sym aside.procedure)
        (subst (λ p. Goes tree (points mid.call.procedure) p s.rest) (sym aside.at) goes));
  };
  quiet = kept.quiet;
}
led_from_kept tree points line (Err why) mid now s after goes aside kept = kept

led_before : {A : Type 0} (tree : Tree) (points : ℕ → List Continuation) (line : ℕ) (r : Result A NoValue) (now : Moment) (s t after : State) →
    t.input ≡ s.input → t.events ≡ s.events → Led tree points line r now t after → Led tree points line r now s after
led_before tree points line (Ok a) now s t after input events led =
    record { going = led.going; quiet = record { input = led.quiet.input ∙ input; events = led.quiet.events ∙ events } }
led_before tree points line (Err why) now s t after input events led =
    record { is = led.is; quiet = record { input = led.quiet.input ∙ input; events = led.quiet.events ∙ events } }

pub no_push : {X : Type 0} (xs : List X) (x : X) → xs ++ x ∷ [] ≡ [] → ⊥
no_push [] x is = cc
no_push (y ∷ xs) x is = cc

pub back_made : {A : Type 0} (tree : Tree) (points : ℕ → List Continuation) (m mid now : Moment) (s : State) (w : Waiting)
    (v : Option Value) (line : ℕ) (r : Result A NoValue) (waiting : List WaitingCall) → AreWaiting tree points m.waiting.items waiting →
    IsRunning tree points m s → m.waiting.items ≡ mid.waiting.items ++ w ∷ [] → mid.call ≡ w.call →
    mid.fill ≡ m.fill → mid.memory ≡ m.memory → mid.end ≡ m.end →
    ((t : State) → IsRunning tree points mid t → IsTargetIf (locals_declared t.frame.function) w.target →
    Keeps tree points line r now t (result_step (option_map (target_named (locals_declared t.frame.function)) w.target) v line t)) →
    StepsAside mid now → Led tree points line r now s (back_step waiting v line s)
back_made tree points m mid now s w v line r [] are state items call fill memory end made aside =
    absurd (no_push mid.waiting.items w (sym items ∙ are))
back_made tree points m mid now s w v line r (call_waiting ∷ waiting) are state items call fill memory end made aside =
    let others = are.0 in
    let last = are.1 in
    let both = same_from_push mid.waiting.items others w last (sym items ∙ are.2) in
    let is : IsWaiting tree points w call_waiting = subst (λ x. IsWaiting tree points x call_waiting) (sym both.1) are.3 in
    let rest : AreWaiting tree points mid.waiting.items waiting = subst (λ ws. AreWaiting tree points ws waiting) (sym both.0) are.4 in
    let t : State = record s { rest = call_waiting.rest; frame = call_waiting.frame; waiting = waiting } in
    let there : IsRunning tree points mid t = record {
      call = subst (λ k. IsCallOf tree k call_waiting.frame) (sym call) is.call;
      waiting = rest;
      fill = fill ∙ state.fill;
      memory = ap (λ x. x.items) memory ∙ state.memory;
      end = ap end_of end ∙ state.end;
    } in
    let goes : Goes tree (points mid.call.procedure) mid.call.at call_waiting.rest =
    subst (λ k. Goes tree (points k.procedure) k.at call_waiting.rest) (sym call) is.rest in
    let step : State = result_step call_waiting.target v line t in
    let kept : Keeps tree points line r now t step =
    subst (λ o. Keeps tree points line r now t (result_step o v line t)) is.target (made t there is.lands) in
    led_before tree points line r now s t step refl refl (led_from_kept tree points line r mid now t step goes aside kept)

-- a `return` of a function with a result
pub give_is : (tree : Tree) (s : State) (line : ℕ) (expr : Option Expr) (given : Option Resolved) (e : Resolved) (type : CType) →
    StandsIf (names_at tree s) expr given → given ≡ Some e → is_start s.frame.function ≡ false →
    s.frame.function.result ≡ Some type →
    (own : Expr) × Stands (names_at tree s) own e ×
    (stmt_step tree (Return expr) line s ≡ on (value_of (scope_of tree s) own) line s (λ v. back_step s.waiting (Some (converted type v)) line s))
give_is tree s line None None e type stands is other result = cc
give_is tree s line (Some own) None e type stands is other result = absurd stands
give_is tree s line None (Some r) e type stands is other result = absurd stands
give_is tree s line (Some own) (Some r) e type stands is other result =
    let same : r ≡ e = cc in (
      own,
      subst (Stands (names_at tree s) own) same stands,
      ap (λ o. give_step o (value_of (scope_of tree s) own) line s) result
          ∙ ap (λ b. if b then with_end (stuck line) s else on (value_of (scope_of tree s) own) line s (λ v. back_step s.waiting (Some (converted type v)) line s)) other,
    )

-- Where an evaluation gives nothing.

pub kept_err : {A : Type 0} (tree : Tree) (points : ℕ → List Continuation) (line : ℕ) (r : Result A NoValue) (m : Moment) (s now : State)
    (why : NoValue) → IsErrAnd r (λ y. y ≡ why) → IsEnded s now (end_at line why) → Keeps tree points line r m s now
kept_err tree points line (Ok a) m s now why is ends = absurd is
kept_err tree points line (Err y) m s now why is ends = subst (λ w. IsEnded s now (end_at line w)) (sym is) ends

pub led_err : {A : Type 0} (tree : Tree) (points : ℕ → List Continuation) (line : ℕ) (r : Result A NoValue) (m : Moment) (s now : State)
    (why : NoValue) → IsErrAnd r (λ y. y ≡ why) → IsEnded s now (end_at line why) → Led tree points line r m s now
led_err tree points line (Ok a) m s now why is ends = absurd is
led_err tree points line (Err y) m s now why is ends = subst (λ w. IsEnded s now (end_at line w)) (sym is) ends

pub stays_err : {A : Type 0} (tree : Tree) (points : ℕ → List Continuation) (line : ℕ) (r : Result A NoValue) (m : Moment) (s now : State)
    (why : NoValue) → IsErrAnd r (λ y. y ≡ why) → IsEnded s now (end_at line why) → Stays tree points line r m s now
stays_err tree points line (Ok a) m s now why is ends = absurd is
stays_err tree points line (Err y) m s now why is ends = subst (λ w. IsEnded s now (end_at line w)) (sym is) ends

pub halts : (line : ℕ) (op done : Operation) (left taken : Option (List ℕ)) (why : NoValue) →
    ((tree : Tree) (points : ℕ → List Continuation) (s now : State) → op tree points s now → IsEnded s now (end_at line why)) →
    ComesTo {A = Unit {0}} line (Err (stop_of why)) op done left taken left taken
halts line op done left taken Faults ends = record { ends = ends; same_left = refl; same_taken = refl }
halts line op done left taken Meaningless ends = record { ends = ends; same_left = refl; same_taken = refl }

pub comes_err : (line : ℕ) (r : Result (Unit {0}) Stop) (op done : Operation) (left taken : Option (List ℕ)) (why : NoValue) →
    IsErrAnd r (λ y. y ≡ stop_of why) →
    ((tree : Tree) (points : ℕ → List Continuation) (s now : State) → op tree points s now → IsEnded s now (end_at line why)) →
    ComesTo line r op done left taken left taken
comes_err line (Ok a) op done left taken why is ends = absurd is
comes_err line (Err y) op done left taken why is ends =
    subst (λ (x : Stop). let e : Result (Unit {0}) Stop = Err x in ComesTo line e op done left taken left taken) (sym is) (halts line op done left taken why ends)

-- What gives nothing is not refused.

pub not_refused : (r : Result (Unit {0}) Stop) (why : NoValue) (fault : Refusal) → IsErrAnd r (λ y. y ≡ stop_of why) → IsErrOf r (Refused fault) → ⊥
not_refused (Ok a) why fault is refused = absurd is
not_refused (Err y) Faults fault is refused = cc
not_refused (Err y) Meaningless fault is refused = cc

pub stays_unless : (r : Result (Unit {0}) Stop) (why : NoValue) (before now : Moment) → IsErrAnd r (λ y. y ≡ stop_of why) → StaysIfRefused r before now
stays_unless (Ok a) why before now is = absurd is
stays_unless (Err y) Faults before now is =
    subst (λ (x : Stop). let e : Result (Unit {0}) Stop = Err x in StaysIfRefused e before now) (sym is) tt
stays_unless (Err y) Meaningless before now is =
    subst (λ (x : Stop). let e : Result (Unit {0}) Stop = Err x in StaysIfRefused e before now) (sym is) tt

-- The counts of faults.

-- nothing is told to have failed
pub unfailed : {ReadFailed WriteFailed : Type 0} {reads reads_now writes writes_now : ℕ} → reads ≤ reads_now → writes ≤ writes_now →
    (ReadFailed → ⊥) → (WriteFailed → ⊥) → CountsFaults ReadFailed WriteFailed reads reads_now writes writes_now
unfailed read wrote no_read no_write = record {
  input_faults = read;
  output_faults = wrote;
  read_failed = λ failed. absurd (no_read failed);
  write_failed = λ failed. absurd (no_write failed);
}

-- a result that tells of no fault, where nothing was read or written
pub no_faults : {reads writes : ℕ} (r : Result (Unit {0}) Stop) → (IsErrOf r (Refused Input) → ⊥) → (IsErrOf r (Refused Output) → ⊥) → Counts r reads reads writes writes
no_faults r no_read no_write = unfailed (omega arith) (omega arith) no_read no_write

-- where an evaluation gave nothing
pub nothing_faults : {reads writes : ℕ} (r : Result (Unit {0}) Stop) (why : NoValue) → IsErrAnd r (λ y. y ≡ stop_of why) → Counts r reads reads writes writes
nothing_faults r why is = no_faults r (not_refused r why Input is) (not_refused r why Output is)

pub made_faults : {reads reads_now writes writes_now : ℕ} (r : Result (Unit {0}) Stop) → r ≡ Ok tt → reads ≤ reads_now → writes ≤ writes_now → Counts r reads reads_now writes writes_now
made_faults r is read wrote = unfailed read wrote (λ failed. cc) (λ failed. cc)

-- a write that failed
pub write_faults : {reads writes writes_now : ℕ} (r : Result (Unit {0}) Stop) → r ≡ Err (Refused Output) → writes ≤ writes_now → Rose writes writes_now → Counts r reads reads writes writes_now
write_faults r is wrote rose = record { input_faults = omega arith; output_faults = wrote; read_failed = λ failed. cc; write_failed = λ failed. rose }

-- a stop that is passed on
pub same_faults : {reads reads_now writes writes_now : ℕ} (r : Result (Unit {0}) Stop) (stop : Stop) → IsErrAnd r (λ y. y ≡ stop) →
    Counts {A = Unit {0}} (Err stop) reads reads_now writes writes_now → Counts r reads reads_now writes writes_now
same_faults (Ok a) stop is counts = absurd is
same_faults {reads} {reads_now} {writes} {writes_now} (Err y) stop is counts =
    subst (λ (x : Stop). let e : Result (Unit {0}) Stop = Err x in Counts e reads reads_now writes writes_now) (sym is) counts

-- a stop that is passed on as a refusal tells its faults
pub refused_faults : {reads reads_now writes writes_now : ℕ} (stop : Stop) (fault : Refusal) → stop ≡ Refused fault →
    Counts {A = Unit {0}} (Err stop) reads reads_now writes writes_now →
    CountsFaults (IsErrOf {T = Unit {0}} (Err fault) Input) (IsErrOf {T = Unit {0}} (Err fault) Output) reads reads_now writes writes_now
refused_faults stop fault is counts = record {
  input_faults = counts.input_faults;
  output_faults = counts.output_faults;
  read_failed = λ failed. let same : fault ≡ Input = cc in counts.read_failed (ap Err (is ∙ ap Refused same));
  write_failed = λ failed. let same : fault ≡ Output = cc in counts.write_failed (ap Err (is ∙ ap Refused same));
}
