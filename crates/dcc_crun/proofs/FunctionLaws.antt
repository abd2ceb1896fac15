-- Calls of functions of the text.
use Rattle.std.proofs.Common.{◌≡◌, ℕ, ◌<◌, ◌≤◌, ◌==◌, true, List, [], ◌∷◌, length, get_or, map, Option, Some, refl, sym, ap, ◌∙◌, subst, arith}
use Rattle.std.specs.Prelude.{Result, Ok, Err, option_map, slice_get}
use Rattle.std.specs.Result.{IsErrAnd}
use Rattle.std.proofs.lemmas.List.{length-map, nil_from_length}
use Rattle.std.proofs.lemmas.Bool.Decides.{nat_tests}
use Rattle.std.proofs.lemmas.Option.{slice_get_within, slice_get_read}
use Rattle.dcc_run.specs.End.{Divide as divided, Stuck as stuck}
use Rattle.dcc_c.specs.Tree.{Variable as DeclaredVariable, Tree}
use Rattle.dcc_c.specs.Value.{Value, Outcome, Gives}
use Rattle.dcc_c.specs.Run.{Continuation, State, on, scope_of, arguments_of, param_types, enter_step}
use Rattle.dcc_value.specs.declared.value.Value.{Value as Held}
use Rattle.dcc_value.specs.declared.expression.Target.{Target as Place}
use Rattle.dcc_crun.specs.declared.ending.Refusal.TheVariants.{Input, Output, Memory}
use Rattle.dcc_crun.specs.declared.ending.Stop.{Stop}
use Rattle.dcc_crun.specs.declared.ending.Stop.TheVariants.{Divides as HaltsDividing, Undefined as HaltsUndefined, Refused}
use Rattle.dcc_prepare.specs.declared.program.Variable.{Variable}
use Rattle.dcc_prepare.specs.declared.program.CallRow.{CallRow}
use Rattle.dcc_prepare.specs.declared.program.Procedure.{Procedure}
use Rattle.dcc_prepare.specs.declared.program.Program.{Program}
use Rattle.dcc_crun.specs.declared.moment.Moment.{Moment}
use Rattle.dcc_value.specs.Evaluation.{typed}
use Rattle.dcc_value.specs.Resolved.{target_named}
use Rattle.dcc_prepare.specs.Points.{locals_declared}
use Rattle.dcc_prepare.specs.Programs.{kind_of, declared_kind, Kind, IsProcedure, HasProcedure}
use Rattle.dcc_crun.specs.Doing.{Operation, scene_in, names_at, resolved_arguments, ArgumentsAre, IsEnded, IsLed, IsStood, ComesTo, CallsFunction}
use Rattle.dcc_crun.proofs.MomentLaws.{fits_here, scope_here, goes_further}
use Rattle.dcc_crun.proofs.ArgumentLaws.{arguments_are, arguments_length}

zero_from : (n : ℕ) → (n == 0) ≡ true → n ≡ 0
zero_from n is = grind (arith, nat_tests)

pub empty_list : {X : Type 0} (xs : List X) → (length xs == 0) ≡ true → xs ≡ []
empty_list xs is = nil_from_length xs (zero_from (length xs) is)

first_kind : (x y : Kind) (xs ys : List Kind) → x ∷ xs ≡ y ∷ ys → x ≡ y
first_kind x y xs ys is = cc

rest_kinds : (x y : Kind) (xs ys : List Kind) → x ∷ xs ≡ y ∷ ys → xs ≡ ys
rest_kinds x y xs ys is = cc

pub types_same : (xs : List Variable) (ds : List DeclaredVariable) → map kind_of xs ≡ map declared_kind ds →
    map (λ (p : Variable). p.ty) xs ≡ map (λ (d : DeclaredVariable). d.type) ds
types_same [] [] is = refl
types_same [] (d ∷ ds) is = cc
types_same (x ∷ xs) [] is = cc
types_same (x ∷ xs) (d ∷ ds) is =
    ap (λ (k : Kind). k.type ∷ map (λ (p : Variable). p.ty) xs) (first_kind _ _ _ _ is)
    ∙ ap (λ l. d.type ∷ l) (types_same xs ds (rest_kinds _ _ _ _ is))

-- the procedure that is called
pub called : (m : Moment) (program : Program) (row : CallRow) (number : ℕ) (target : Option Place) (line : ℕ) (procedure : Procedure)
    (tree : Tree) (points : ℕ → List Continuation) (s now : State) → (call : CallsFunction m program row number target line tree points s now) →
    procedure ≡ get_or program.procedures.items number procedure → number < length program.procedures.items →
    IsProcedure tree call.f (points number) procedure
called m program row number target line procedure tree points s now call here within =
    let has : HasProcedure tree call.f (points number) program number = call.at.program_is.procedures number call.f call.here in
    let found : slice_get program.procedures.items number ≡ Some procedure = slice_get_read program.procedures.items _ number procedure refl within here in
    let same : has.procedure ≡ procedure = some_same _ _ (sym has.here ∙ found) in
    subst (IsProcedure tree call.f (points number)) same has.is
  where
    some_same : (x y : Procedure) → Some x ≡ Some y → x ≡ y
    some_same x y e = cc

pub not_called : (m : Moment) (program : Program) (row : CallRow) (number : ℕ) (target : Option Place) (line : ℕ)
    (tree : Tree) (points : ℕ → List Continuation) (s now : State) → CallsFunction m program row number target line tree points s now →
    length program.procedures.items ≤ number → ⊥
not_called m program row number target line tree points s now call past =
    let has : HasProcedure tree call.f (points number) program number = call.at.program_is.procedures number call.f call.here in
    let within = slice_get_within program.procedures.items number has.procedure has.here in
    omega arith

-- what its arguments come to
pub function_arguments : (m : Moment) (program : Program) (row : CallRow) (number : ℕ) (target : Option Place) (line : ℕ) (procedure : Procedure)
    (tree : Tree) (points : ℕ → List Continuation) (s now : State) → (call : CallsFunction m program row number target line tree points s now) →
    IsProcedure tree call.f (points number) procedure →
    arguments_of (scope_of tree s) (param_types call.f) call.exprs
    ≡ resolved_arguments (scene_in m program.globals.items) (map (λ (p : Variable). p.ty) procedure.params.items) row.arguments.items
function_arguments m program row number target line procedure tree points s now call is =
    let globals = program.globals.items in
    let fits = fits_here tree points globals m s call.at.program_is.globals call.at.state in
    ap (λ sc. arguments_of sc (param_types call.f) call.exprs) (sym (scope_here tree points globals m s call.at.program_is.globals call.at.state))
    ∙ sym (arguments_are (names_at tree s) (scene_in m globals) (param_types call.f) call.exprs row.arguments.items call.stand fits)
    ∙ ap (λ ts. resolved_arguments (scene_in m globals) ts row.arguments.items) (sym (types_same procedure.params.items call.f.params is.params.kinds))

-- arguments that give nothing
pub values_stop : (line : ℕ) (r : Result (Unit {0}) Stop) (op done : Operation) (left taken : Option (List ℕ)) (stop : Stop) (o : Outcome (List Value)) →
    IsErrAnd r (λ y. y ≡ stop) → ArgumentsAre (Err stop) o →
    ((tree : Tree) (points : ℕ → List Continuation) (s now : State) → op tree points s now → (next : List Value → State) × (now ≡ on o line s next)) →
    ComesTo line r op done left taken left taken
values_stop line (Ok a) op done left taken stop o is are ends = absurd is
values_stop line (Err y) op done left taken stop o is are ends =
    subst (λ (x : Stop). let e : Result (Unit {0}) Stop = Err x in ComesTo line e op done left taken left taken) (sym is) (stops stop are)
  where
    stops : (stop : Stop) → ArgumentsAre (Err stop) o → (let e : Result (Unit {0}) Stop = Err stop in ComesTo line e op done left taken left taken)
    stops HaltsDividing are = record {
      ends = λ tree points s now made.
          let one = ends tree points s now made in
          subst (λ (t : State). IsEnded s t divided) (sym (one.1 ∙ ap (λ p. on p line s one.0) are)) (record { is = refl; quiet = record { input = refl; events = refl } });
      same_left = refl;
      same_taken = refl;
    }
    stops HaltsUndefined are = record {
      ends = λ tree points s now made.
          let one = ends tree points s now made in
          subst (λ (t : State). IsEnded s t (stuck line)) (sym (one.1 ∙ ap (λ p. on p line s one.0) are)) (record { is = refl; quiet = record { input = refl; events = refl } });
      same_left = refl;
      same_taken = refl;
    }
    stops (Refused Memory) are = record { same_left = refl; same_taken = refl }
    stops (Refused Input) are = cc
    stops (Refused Output) are = cc

-- the call begins
pub begins : (m now_m : Moment) (program : Program) (row : CallRow) (number : ℕ) (target : Option Place) (line : ℕ) (procedure : Procedure) (values : List Held)
    (tree : Tree) (points : ℕ → List Continuation) (s now : State) → (call : CallsFunction m program row number target line tree points s now) →
    IsProcedure tree call.f (points number) procedure →
    resolved_arguments (scene_in m program.globals.items) (map (λ (p : Variable). p.ty) procedure.params.items) row.arguments.items ≡ Gives (map typed values) →
    (length values ≡ length call.f.params →
    IsLed tree points now_m s (enter_step call.f row.depth (option_map (target_named (locals_declared s.frame.function)) target) (map typed values) s)) →
    IsStood tree points now_m s now
begins m now_m program row number target line procedure values tree points s now call is given made =
    let all = function_arguments m program row number target line procedure tree points s now call is ∙ given in
    let long : length values ≡ length call.f.params =
    sym (length-map values typed) ∙ arguments_length (scope_of tree s) (param_types call.f) call.exprs (map typed values) all ∙ length-map call.f.params (λ (d : DeclaredVariable). d.type) in
    let led = made long in
    subst (λ (t : State). IsStood tree points now_m s t) (sym (call.is ∙ goes_further (arguments_of (scope_of tree s) (param_types call.f) call.exprs) (map typed values) line s _ all))
    (record { stood = record { end = led.going.state.end; going = λ runs. led.going }; quiet = led.quiet })
