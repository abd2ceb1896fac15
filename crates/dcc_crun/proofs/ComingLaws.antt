-- How operations are made of others.
use Rattle.std.proofs.Common.{◌≡◌, ◌≢◌, ℕ, ◌<◌, ◌≤◌, true, false, List, [], ◌∷◌, ◌++◌, length, get_or, Option, Some, refl, sym, ap, ◌∙◌, subst, arith}
use Rattle.std.specs.Prelude.{Result, Ok, Err, option_map, slice_get}
use Rattle.std.proofs.lemmas.Option.{slice_get_within, slice_get_read}
use Rattle.dcc_run.specs.End.{End, Running as running, Divide as divided, Stuck as stuck}
use Rattle.dcc_c.specs.Tree.{Expr, Tree}
use Rattle.dcc_c.specs.Dos.{Getche, Getch}
use Rattle.dcc_c.specs.Run.{Continuation, State, goes_on, on, scope_of, arguments_of, dos_step}
use Rattle.dcc_value.specs.declared.variable.Binding.{Binding as Bound}
use Rattle.dcc_value.specs.declared.expression.Resolved.{Resolved}
use Rattle.dcc_value.specs.declared.expression.Target.{Target as Place}
use Rattle.dcc_crun.specs.declared.ending.Refusal.{Refusal}
use Rattle.dcc_crun.specs.declared.ending.Refusal.TheVariants.{Input, Output, Memory}
use Rattle.dcc_crun.specs.declared.ending.Stop.{Stop}
use Rattle.dcc_crun.specs.declared.ending.Stop.TheVariants.{Divides as HaltsDividing, Undefined as HaltsUndefined, Refused}
use Rattle.dcc_prepare.specs.declared.program.Dos.TheVariants.{Getche as calls_getche, Getch as calls_getch}
use Rattle.dcc_prepare.specs.declared.program.CallRow.{CallRow}
use Rattle.dcc_prepare.specs.declared.program.Action.{Action}
use Rattle.dcc_prepare.specs.declared.program.Action.TheVariants.{Call as Calls}
use Rattle.dcc_prepare.specs.declared.program.Row.{Row}
use Rattle.dcc_prepare.specs.declared.program.Procedure.{Procedure}
use Rattle.dcc_prepare.specs.declared.program.Program.{Program}
use Rattle.dcc_crun.specs.declared.moment.Moment.{Moment}
use Rattle.dcc_crun.specs.Ending.{end_of}
use Rattle.dcc_value.specs.Resolved.{Names, target_named}
use Rattle.dcc_prepare.specs.Points.{locals_declared, StandAll, IsCall, Acts}
use Rattle.dcc_prepare.specs.Programs.{IsProcedure, HasProcedure}
use Rattle.dcc_crun.specs.Doing.{Operation, names_at, IsKept, IsStood, IsEnded, Does, Halts, Refuses, ComesTo, Kept, Stood, CallsForKey, CallsDos, CallsAny, Performs, Steps}
use Rattle.dcc_crun.proofs.ActLaws.{running_on}
use Rattle.dcc_crun.proofs.Scenes.{does_quiet}

-- what one operation does from a state another does from a state with the same input and output
abbrev pub From : Operation → Operation → Operation → Operation → Type 0
From op done other after = (tree : Tree) (points : ℕ → List Continuation) (s now : State) → other tree points s now →
    (t : State) × op tree points t now × (t.input ≡ s.input) × (t.events ≡ s.events) × (done tree points t now → after tree points s now)

pub does_from : (op done other after : Operation) (left taken left_now taken_now : Option (List ℕ)) → From op done other after →
    Does op done left taken left_now taken_now → Does other after left taken left_now taken_now
does_from op done other after left taken left_now taken_now from does = record {
  happened = does.happened;
  took = does.took;
  wrote = does.wrote;
  made = λ tree points s now is has.
      let one = from tree points s now is in
      let all = does.made tree points one.0 now one.1 (one.2 ∙ has) in
      (one.4 all.0, all.1, all.2 ∙ ap (λ l. l ++ does.happened) one.3);
}

pub halts_from : (op done other after : Operation) (end : End) (left taken left_now taken_now : Option (List ℕ)) → From op done other after →
    Halts op end left taken left_now taken_now → Halts other end left taken left_now taken_now
halts_from op done other after end left taken left_now taken_now from halts = record {
  ends = λ tree points s now is.
      let one = from tree points s now is in
      let all = halts.ends tree points one.0 now one.1 in
      record { is = all.is; quiet = record { input = all.quiet.input ∙ one.2; events = all.quiet.events ∙ one.3 } };
  same_left = halts.same_left;
  same_taken = halts.same_taken;
}

pub refuses_from : (fault : Refusal) (op done other after : Operation) (left taken left_now taken_now : Option (List ℕ)) → From op done other after →
    Refuses fault op left taken left_now taken_now → Refuses fault other left taken left_now taken_now
refuses_from Input op done other after left taken left_now taken_now from refused = record {
  takes = λ tree points s now byte rest is has.
      let one = from tree points s now is in
      refused.takes tree points one.0 now byte rest one.1 (one.2 ∙ has);
  same_left = refused.same_left;
  same_taken = refused.same_taken;
}
refuses_from Output op done other after left taken left_now taken_now from refused = record {
  happened = refused.happened;
  makes = λ tree points s now rest is has.
      let one = from tree points s now is in
      let all = refused.makes tree points one.0 now rest one.1 (one.2 ∙ has) in
      (all.0, all.1 ∙ ap (λ l. l ++ refused.happened) one.3);
  took = refused.took;
  part = refused.part;
}
refuses_from Memory op done other after left taken left_now taken_now from refused = refused

pub comes_from : {A : Type 0} (line : ℕ) (r : Result A Stop) (op done other after : Operation) (left taken left_now taken_now : Option (List ℕ)) →
    From op done other after → ComesTo line r op done left taken left_now taken_now → ComesTo line r other after left taken left_now taken_now
comes_from line (Ok a) op done other after left taken left_now taken_now from comes = does_from op done other after left taken left_now taken_now from comes
comes_from line (Err HaltsDividing) op done other after left taken left_now taken_now from comes = halts_from op done other after divided left taken left_now taken_now from comes
comes_from line (Err HaltsUndefined) op done other after left taken left_now taken_now from comes = halts_from op done other after (stuck line) left taken left_now taken_now from comes
comes_from line (Err (Refused fault)) op done other after left taken left_now taken_now from comes = refuses_from fault op done other after left taken left_now taken_now from comes

-- Keys.

no_exprs : (m : Moment) (names : Names) (es : List Expr) (rs : List Resolved) → StandAll names es rs → rs ≡ [] → es ≡ []
no_exprs m names [] rs stand is = refl
no_exprs m names (e ∷ es) [] stand is = absurd stand
no_exprs m names (e ∷ es) (r ∷ rs) stand is = cc

some_exprs : (names : Names) (es : List Expr) (rs : List Resolved) → StandAll names es rs → rs ≢ [] → (e : Expr) × (others : List Expr) × (es ≡ e ∷ others)
some_exprs names [] [] stand other = absurd (other refl)
some_exprs names [] (r ∷ rs) stand other = absurd stand
some_exprs names (e ∷ es) rs stand other = (e, es, refl)

pub getche_from : (m now : Moment) (globals : List Bound) (target : Option Place) (arguments : List Resolved) (line : ℕ) → arguments ≡ [] →
    From (CallsForKey m true target line) (Kept now) (CallsDos m globals calls_getche target arguments line) (Kept now)
getche_from m now globals target arguments line none tree points s after call =
    let empty = no_exprs m (names_at tree s) call.exprs arguments call.stand none in
    let to = option_map (target_named (locals_declared s.frame.function)) target in
    (s, record { state = call.state; lands = call.lands; is = call.is ∙ ap (λ es. on (arguments_of (scope_of tree s) [] es) line s (λ vs. dos_step Getche to vs line s)) empty }, refl, refl, λ done. done)

pub getch_from : (m now : Moment) (globals : List Bound) (target : Option Place) (arguments : List Resolved) (line : ℕ) → arguments ≡ [] →
    From (CallsForKey m false target line) (Kept now) (CallsDos m globals calls_getch target arguments line) (Kept now)
getch_from m now globals target arguments line none tree points s after call =
    let empty = no_exprs m (names_at tree s) call.exprs arguments call.stand none in
    let to = option_map (target_named (locals_declared s.frame.function)) target in
    (s, record { state = call.state; lands = call.lands; is = call.is ∙ ap (λ es. on (arguments_of (scope_of tree s) [] es) line s (λ vs. dos_step Getch to vs line s)) empty }, refl, refl, λ done. done)

pub getche_halts : (m : Moment) (globals : List Bound) (target : Option Place) (arguments : List Resolved) (line : ℕ) (left taken : Option (List ℕ)) → arguments ≢ [] →
    Halts (CallsDos m globals calls_getche target arguments line) (stuck line) left taken left taken
getche_halts m globals target arguments line left taken other = record {
  ends = λ tree points s now call.
      let some = some_exprs (names_at tree s) call.exprs arguments call.stand other in
      let to = option_map (target_named (locals_declared s.frame.function)) target in
      let is = call.is ∙ ap (λ es. on (arguments_of (scope_of tree s) [] es) line s (λ vs. dos_step Getche to vs line s)) some.2 in
      subst (λ (t : State). IsEnded s t (stuck line)) (sym is) (record { is = refl; quiet = record { input = refl; events = refl } });
  same_left = refl;
  same_taken = refl;
}

pub getch_halts : (m : Moment) (globals : List Bound) (target : Option Place) (arguments : List Resolved) (line : ℕ) (left taken : Option (List ℕ)) → arguments ≢ [] →
    Halts (CallsDos m globals calls_getch target arguments line) (stuck line) left taken left taken
getch_halts m globals target arguments line left taken other = record {
  ends = λ tree points s now call.
      let some = some_exprs (names_at tree s) call.exprs arguments call.stand other in
      let to = option_map (target_named (locals_declared s.frame.function)) target in
      let is = call.is ∙ ap (λ es. on (arguments_of (scope_of tree s) [] es) line s (λ vs. dos_step Getch to vs line s)) some.2 in
      subst (λ (t : State). IsEnded s t (stuck line)) (sym is) (record { is = refl; quiet = record { input = refl; events = refl } });
  same_left = refl;
  same_taken = refl;
}

-- What reads and writes nothing.

pub does_kept : (op : Operation) (m : Moment) (left taken : Option (List ℕ)) →
    ((tree : Tree) (points : ℕ → List Continuation) (s now : State) → op tree points s now → IsKept tree points m s now) → Does op (Kept m) left taken left taken
does_kept op m left taken kept =
    does_quiet op (Kept m) left taken (λ tree points s now is. let one = kept tree points s now is in ((one.state, one.rest), one.quiet))

pub does_stood : (op : Operation) (m : Moment) (left taken : Option (List ℕ)) →
    ((tree : Tree) (points : ℕ → List Continuation) (s now : State) → op tree points s now → IsStood tree points m s now) → Does op (Stood m) left taken left taken
does_stood op m left taken stood =
    does_quiet op (Stood m) left taken (λ tree points s now is. let one = stood tree points s now is in (one.stood, one.quiet))

-- an operation that is never made
pub does_never : (op done : Operation) (left taken : Option (List ℕ)) →
    ((tree : Tree) (points : ℕ → List Continuation) (s now : State) → op tree points s now → ⊥) → Does op done left taken left taken
does_never op done left taken never = does_quiet op done left taken (λ tree points s now is. absurd (never tree points s now is))

-- an operation that ends the run, where the moment has that end
pub does_halting : (op : Operation) (m : Moment) (end : End) (left taken left_now taken_now : Option (List ℕ)) → end_of m.end ≡ end → end ≢ running →
    Halts op end left taken left_now taken_now → Does op (Stood m) left taken left_now taken_now
does_halting op m end left taken left_now taken_now is other halts =
    subst (λ l. Does op (Stood m) left taken l taken_now) (sym halts.same_left)
    (subst (λ t. Does op (Stood m) left taken left t) (sym halts.same_taken)
    (does_stood op m left taken (λ tree points s now made.
    let ends = halts.ends tree points s now made in
    record {
      stood = record { end = is ∙ sym ends.is; going = λ runs. absurd (other (sym ends.is ∙ runs)) };
      quiet = ends.quiet;
    })))

-- Steps.

-- the action at the point of a run that goes on
pub step_performs : (program : Program) (m : Moment) (procedure : Procedure) (row : Row) →
    procedure ≡ get_or program.procedures.items m.call.procedure procedure → m.call.procedure < length program.procedures.items →
    row ≡ get_or procedure.rows.items m.call.at row → m.call.at < length procedure.rows.items → (done : Operation) →
    From (Performs program procedure row.line row.action m) done (Steps program m) done
step_performs program m procedure row here within there inside done tree points s now call =
    let has : HasProcedure tree s.frame.function (points m.call.procedure) program m.call.procedure = call.program_is.procedures m.call.procedure s.frame.function call.state.state.call.function in
    let found : slice_get program.procedures.items m.call.procedure ≡ Some procedure = slice_get_read program.procedures.items _ m.call.procedure procedure refl within here in
    let same : has.procedure ≡ procedure = some_same _ _ (sym has.here ∙ found) in
    let is = subst (λ p. IsProcedure tree s.frame.function (points m.call.procedure) p) same has.is in
    let rest = call.state.rest in
    let at_row : slice_get procedure.rows.items m.call.at ≡ Some row = slice_get_read procedure.rows.items _ m.call.at row refl inside there in (
      s,
      record {
        program_is = call.program_is;
        state = call.state.state;
        running = call.running;
        procedure_is = is;
        own = rest.own;
        acts = (is.rows.acts m.call.at rest.own row rest.here at_row refl).acts;
        is = call.is ∙ sym (rest.alike s);
      },
      refl,
      refl,
      λ d. d,
    )
  where
    some_same : {X : Type 0} (x y : X) → Some x ≡ Some y → x ≡ y
    some_same x y e = cc

pub no_procedure : (program : Program) (m : Moment) (tree : Tree) (points : ℕ → List Continuation) (s now : State) → Steps program m tree points s now →
    length program.procedures.items ≤ m.call.procedure → ⊥
no_procedure program m tree points s now call past =
    let has = call.program_is.procedures m.call.procedure s.frame.function call.state.state.call.function in
    let within = slice_get_within program.procedures.items m.call.procedure has.procedure has.here in
    omega arith

pub no_row : (program : Program) (m : Moment) (procedure : Procedure) (tree : Tree) (points : ℕ → List Continuation) (s now : State) → Steps program m tree points s now →
    procedure ≡ get_or program.procedures.items m.call.procedure procedure → m.call.procedure < length program.procedures.items →
    length procedure.rows.items ≤ m.call.at → ⊥
no_row program m procedure tree points s now call here within past =
    let has = call.program_is.procedures m.call.procedure s.frame.function call.state.state.call.function in
    let found : slice_get program.procedures.items m.call.procedure ≡ Some procedure = slice_get_read program.procedures.items _ m.call.procedure procedure refl within here in
    let same : Some has.procedure ≡ Some procedure = sym has.here ∙ found in
    let rows : has.procedure.rows.items ≡ procedure.rows.items = cc in
    let inside = slice_get_within (points m.call.procedure) m.call.at call.state.rest.own call.state.rest.here in
    let long : length (points m.call.procedure) ≡ length procedure.rows.items = has.is.rows.same ∙ ap length rows in
    omega arith

-- a call at a point
pub call_performs : (program : Program) (procedure : Procedure) (line : ℕ) (action : Action) (m now : Moment) (row : CallRow) → action ≡ Calls row →
    From (CallsAny m program row line) (Stood now) (Performs program procedure line action m) (Stood now)
call_performs program procedure line action m now row is tree points s after call =
    let acts : IsCall tree s.frame.function (points m.call.procedure) call.own line row =
    subst (λ (a : Action). Acts tree s.frame.function (points m.call.procedure) procedure.labels.items call.own line a) is call.acts in (
      goes_on acts.to s,
      record {
        at = record {
          program_is = call.program_is;
          state = running_on tree points m s acts.to call.state;
          running = call.running;
          goes = acts.goes;
        };
        place = acts.place;
        word = acts.word;
        exprs = acts.arguments;
        place_stands = acts.place_stands;
        callee = acts.callee;
        stand = acts.stand;
        is = call.is ∙ acts.does s;
      },
      refl,
      refl,
      λ done. done,
    )
