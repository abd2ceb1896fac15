-- Each step from a sound state leads to one, or ends the run in one of the known ways.
use Rattle.std.proofs.Common.{◌≡◌, ℕ, Bool, true, false, ◌&&◌, not, List, [], ◌∷◌, ◌++◌, Option, Some, None, refl, sym, ap, ◌∙◌, subst}
use Rattle.std.specs.Prelude.{is_some, if◌then◌else◌, ◌==◌, option_map}
use Rattle.std.specs.List.{list_all, list_any, flat_map}
use Rattle.std.proofs.lemmas.Bool.{and_parts}
use Rattle.dcc_run.specs.End.{Running}
use Rattle.dcc_c.specs.declared.syntax.Base.TheVariants.{Uint}
use Rattle.dcc_c.specs.declared.syntax.CType.{CType}
use Rattle.dcc_c.specs.Types.{plain, promoted_type}
use Rattle.dcc_c.specs.Tree.{Word, Expr, Stmt, Assign, Call, If, While, DoWhile, Forever, Switch, Break, Continue, Goto, Label, Empty, Return, Lines, line, Arms, no_arms, arm, Function, Tree}
use Rattle.dcc_c.specs.Parts.{stmts_in, parts_of, expr_if, exprs_of, labels_in}
use Rattle.dcc_c.specs.Typing.{type_of, place_type}
use Rattle.dcc_c.specs.Dos.{Dos, dos_of, dos_signature}
use Rattle.dcc_c.specs.Value.{Value, is_zero, converted, value_of, Target, target_of}
use Rattle.dcc_c.specs.Grammar.{is_among}
use Rattle.dcc_c.specs.Rules.{all_differ, goto_of, declared_in, fits, is_word_base, is_switch_value, allows_stmt, signature_in, result_fits, fit_all, call_fits, signature_of, cases_of, differ, at_most_one}
use Rattle.dcc_c.specs.Run.{Continuation, ends_function, runs, tests, turns, ends_switch, State, on, scope_of, takes, after_break, after_continue, after_goto, arm_for, default_body, if_step, test_step, switch_step, jump_step, is_start, return_step, give_step, result_target, dos_step, arguments_of, enter_step, function_in, param_types, call_step, dos_or_call_step, stmt_step}
use Rattle.dcc_progress.specs.Stuck.{StandsIn, here, inside, in_then, in_else, in_while, in_do, in_for, in_arm}
use Rattle.dcc_progress.specs.Stuck.{in_default, in_body, in_others, IsOneOf}
use Rattle.dcc_progress.proofs.Bodies.{each_stands, all_flat}
use Rattle.dcc_progress.proofs.Declarations.{Takes, takes-stmt, takes-first, takes-others}
use Rattle.dcc_progress.proofs.Jumps.{JumpsInside, JumpsInArms}
use Rattle.dcc_progress.proofs.Labels.{label-found}
use Rattle.dcc_progress.proofs.Known.{IsKnown, found-one}
use Rattle.dcc_progress.proofs.Rests.{AreOf, AreArmsOf, can_break, can_continue, IsRest, IfRest, break-rest}
use Rattle.dcc_progress.proofs.Rests.{continue-rest, stands-allowed, while-test, do-test, lines-rest}
use Rattle.dcc_progress.proofs.Frames.{SameLength, length-map, IsFrame, Lands, IfLands}
use Rattle.dcc_progress.proofs.Values.{Any, has-type, fitting-gives, number-gives, place-gives, result-gives}
use Rattle.dcc_progress.proofs.Values.{arguments-give, value-holds, place-result, call-result}
use Rattle.dcc_progress.proofs.Sound.{AreCalls, IsSound, IsStep, still, on-step, goes-step, takes-step, return-step}
use Rattle.dcc_progress.proofs.Sound.{give-step, dos-step, enter-step}

-- a test of a loop goes on with the loop, or past it
pub tested-step : (tree : Tree) (ways : ℕ → Type 0) (v : Value) (e : Expr) (body : Lines) (at : ℕ) (rest : Continuation) (s : State) → s.end ≡ Running → IsFrame tree s.frame → AreCalls tree s.frame.function s.waiting →
    IsRest tree s.frame.function (tests e body at rest) → IsStep tree ways (test_step v e body at rest s)
tested-step tree ways v e body at rest s runs_on frame calls is =
    goes-step tree ways (if is_zero v then rest else runs body (tests e body at rest)) s runs_on frame calls (by (is_zero v))
  where
    by : (b : Bool) → IsRest tree s.frame.function (if b then rest else runs body (tests e body at rest))
    by true = is.3
    by false = (is.1, is.2, is)

-- a jump goes where there is something left
jumped-step : (tree : Tree) (ways : ℕ → Type 0) (to : Option Continuation) (at : ℕ) (s : State) → s.end ≡ Running → IsSound tree s → is_some to ≡ true → IfRest tree s.frame.function to → IsStep tree ways (jump_step to at s)
jumped-step tree ways (Some rest) at s runs_on is there has =
    goes-step tree ways rest s runs_on is.frame is.calls has
jumped-step tree ways None at s runs_on is there has = absurd cc

-- the body of an arm consists of statements of the function
arm-rest : (tree : Tree) (f : Function) (n : ℕ) (arms : Arms) (otherwise : Lines) (rest : Continuation) → AreArmsOf f arms → JumpsInArms (can_continue rest) arms → IsRest tree f rest → IsRest tree f (runs otherwise (ends_switch rest)) →
    IsRest tree f (runs (arm_for n arms otherwise) (ends_switch rest))
arm-rest tree f n no_arms otherwise rest own jumps is other = other
arm-rest tree f n (arm cases body arms) otherwise rest own jumps is other =
    elim (list_any (λ c. c == n) cases) as (λ b. IsRest tree f (runs (if b then body else arm_for n arms otherwise) (ends_switch rest))) [
      | true ↦ (λ s a stands. own s a (in_body stands), jumps.0, is)
      | false ↦ arm-rest tree f n arms otherwise rest (λ s a stands. own s a (in_others stands)) jumps.1 is other
    ]

default-rest : (tree : Tree) (f : Function) (arms : Arms) (rest : Continuation) → AreArmsOf f arms → JumpsInArms (can_continue rest) arms → IsRest tree f rest → IsRest tree f (runs (default_body arms) (ends_switch rest))
default-rest tree f no_arms rest own jumps is = (λ s a stands. elim stands [ ], tt, is)
default-rest tree f (arm cases body arms) rest own jumps is =
    (λ s a stands. own s a (in_body stands), jumps.0, is)

-- a `goto` names a label of the function
goto-among : (body : Lines) (word : Word) (at : ℕ) → StandsIn body (Goto word) at → list_all (is_among (labels_in body)) (flat_map goto_of (stmts_in body)) ≡ true → is_among (labels_in body) word ≡ true
goto-among body word at stands all =
    let own : (is_among (labels_in body) word && true) ≡ true =
    each_stands (λ s. list_all (is_among (labels_in body)) (goto_of s)) stands (sym (all_flat (is_among (labels_in body)) goto_of (stmts_in body)) ∙ all)
    in
    (and_parts (is_among (labels_in body) word) true own).0

-- the type of a test that is passed passes it
passed : (o : Option CType) (p : CType → Bool) (t : CType) → o ≡ Some t → elim o [ Some to ↦ p to | None ↦ false ] ≡ true → p t ≡ true
passed o p t is holds = subst (λ q. elim q [ Some to ↦ p to | None ↦ false ] ≡ true) is holds

arguments-taken : (body : Lines) (place : Option Expr) (arguments : List Expr) → Takes body (flat_map parts_of (expr_if place ++ arguments)) → Takes body (flat_map parts_of arguments)
arguments-taken body None arguments takes = takes
arguments-taken body (Some place) arguments takes = takes-others body place arguments takes

-- a function with a result is not `start`
no-start : {tree : Tree} (f : Function) → IsKnown tree f → (type : CType) → f.result ≡ Some type → is_start f ≡ false
no-start f known type has = by (is_start f) refl
  where
    by : (b : Bool) → is_start f ≡ b → is_start f ≡ false
    by false is = is
    by true is = let no : is_some (Some type) ≡ false = ap is_some (sym has ∙ known.starts is) in absurd cc

no-result : (b : Bool) → not b ≡ true → b ≡ false
no-result false is = refl
no-result true is = absurd cc

module _ (tree : Tree) (known : (g : Function) → IsOneOf g tree.functions → IsKnown tree g) (ways : ℕ → Type 0) where
  -- Calls.

  module _ (s : State) (runs_on : s.end ≡ Running) (is : IsSound tree s) (target : Option Target) (lands : IfLands s.frame.variables target) (arguments : List Expr) (taken : Takes s.frame.function.body (flat_map parts_of arguments)) (at depth : ℕ) where
    called-step : (word : Word) (o : Option Function) → function_in tree.functions word ≡ o → (place : Option Expr) →
        call_fits (declared_in tree s.frame.function) place arguments (option_map signature_of o) ≡ true →
        is_some target ≡ is_some place →
        IsStep tree ways (call_step o (scope_of tree s) target arguments depth at s)
    called-step word None found place fit has = absurd cc
    called-step word (Some g) found place fit has =
        let names = declared_in tree s.frame.function in
        let (result, all) = and_parts (result_fits names place g.result) (fit_all names (param_types g) arguments) fit in
        on-step tree ways (SameLength (param_types g)) (arguments_of (scope_of tree s) (param_types g) arguments) at s (λ vs. enter_step g depth target vs s) (arguments-give tree s.frame is.frame s.memory (param_types g) arguments taken all)
        (λ vs same. enter-step tree ways g depth target vs s runs_on is (known g (found-one tree.functions word g found)) lands (λ some. place-result names place g.result result (sym has ∙ some)) (length-map (λ v. v.type) g.params vs same))

    either-step : (word : Word) (d : Option Dos) (place : Option Expr) →
        call_fits (declared_in tree s.frame.function) place arguments (elim d [ Some dos ↦ Some (dos_signature dos) | None ↦ option_map signature_of (function_in tree.functions word) ]) ≡ true →
        is_some target ≡ is_some place →
        IsStep tree ways (dos_or_call_step tree d word target arguments depth at s)
    either-step word (Some dos) place fit has =
        let names = declared_in tree s.frame.function in
        let (result, all) = and_parts (result_fits names place (dos_signature dos).result) (fit_all names (dos_signature dos).params arguments) fit in
        on-step tree ways (SameLength (dos_signature dos).params) (arguments_of (scope_of tree s) (dos_signature dos).params arguments) at s (λ vs. dos_step dos target vs at s) (arguments-give tree s.frame is.frame s.memory (dos_signature dos).params arguments taken all)
        (λ vs same. dos-step tree ways dos target vs at s runs_on is lands (λ some. place-result names place (dos_signature dos).result result (sym has ∙ some)) same)
    either-step word None place fit has =
        called-step word (function_in tree.functions word) refl place fit has

  -- Statements. After the statement stand others, which the state goes on with.

  module _ (at : ℕ) (lines : Lines) (s : State) (runs_on : s.end ≡ Running) (is : IsSound tree s) where
    -- the statement and those after it are some of the function's, and it is left where it may be
    abbrev Stands : Stmt → Type 0
    Stands stmt =
        AreOf s.frame.function (line stmt at lines) × JumpsInside (can_break s.rest) (can_continue s.rest) stmt

    allowed-of : (stmt : Stmt) → Stands stmt → allows_stmt tree s.frame.function stmt ≡ true
    allowed-of stmt own = stands-allowed tree s.frame.function is.frame.known stmt at (own.0 stmt at here)

    taken-of : (stmt : Stmt) → Stands stmt → Takes s.frame.function.body (flat_map parts_of (exprs_of stmt))
    taken-of stmt own = takes-stmt (own.0 stmt at here)

    assign-step : (place e : Expr) → Stands (Assign place e) → IsStep tree ways (stmt_step tree (Assign place e) at s)
    assign-step place e own =
        let f = s.frame.function in
        let names = declared_in tree f in
        let taken = taken-of (Assign place e) own in
        let typed = has-type (place_type names place) (λ to. fits names to e) (allowed-of (Assign place e) own) in
        let fit = passed (place_type names place) (λ to. fits names to e) typed.0 typed.1 (allowed-of (Assign place e) own) in
        on-step tree ways Any (value_of (scope_of tree s) e) at s (λ v. on (target_of (scope_of tree s) place) at s (λ target. takes target v s)) (fitting-gives tree s.frame is.frame s.memory e typed.0 (takes-first f.body e [] (takes-others f.body place (e ∷ []) taken)) fit)
        (λ v given. on-step tree ways (Lands s.frame.variables) (target_of (scope_of tree s) place) at s (λ target. takes target v s) (place-gives tree s.frame is.frame s.memory place typed.0 (takes-first f.body place (e ∷ []) taken) typed.1) (λ target lands. takes-step tree ways target v s runs_on is lands))

    call-step : (place : Option Expr) (word : Word) (arguments : List Expr) (depth : ℕ) → Stands (Call place word arguments depth) → IsStep tree ways (stmt_step tree (Call place word arguments depth) at s)
    call-step place word arguments depth own =
        let f = s.frame.function in
        let names = declared_in tree f in
        let taken = taken-of (Call place word arguments depth) own in
        let fit = allowed-of (Call place word arguments depth) own in
        let result = call-result names place arguments (signature_in tree word) fit in
        on-step tree ways (λ target. (is_some target ≡ is_some place) × IfLands s.frame.variables target) (result_target (scope_of tree s) place) at s (λ target. dos_or_call_step tree (dos_of word) word target arguments depth at s) (result-gives tree s.frame is.frame s.memory place arguments result.0 taken result.1)
        (λ target lands. either-step s runs_on is target lands.1 arguments (arguments-taken f.body place arguments taken) at depth word (dos_of word) place fit lands.0)

    if-step : (e : Expr) (body otherwise : Lines) → Stands (If e body otherwise) → IsStep tree ways (stmt_step tree (If e body otherwise) at s)
    if-step e body otherwise own =
        let f = s.frame.function in
        on-step tree ways Any (value_of (scope_of tree s) e) at s (λ v. if_step v body otherwise s) (number-gives tree s.frame is.frame s.memory e (takes-first f.body e [] (taken-of (If e body otherwise) own)) (allowed-of (If e body otherwise) own))
        (λ v given. goes-step tree ways (runs (if is_zero v then otherwise else body) s.rest) s runs_on is.frame is.calls (by (is_zero v)))
      where
        by : (b : Bool) → IsRest tree s.frame.function (runs (if b then otherwise else body) s.rest)
        by true = (λ t a stands. own.0 t a (inside (in_else stands)), own.1.1, is.rest)
        by false = (λ t a stands. own.0 t a (inside (in_then stands)), own.1.0, is.rest)

    while-step : (e : Expr) (body : Lines) → Stands (While e body) → IsStep tree ways (stmt_step tree (While e body) at s)
    while-step e body own =
        let f = s.frame.function in
        let test = while-test tree f is.frame.known e body at (own.0 (While e body) at here) in
        let inner : AreOf f body = λ t a stands. own.0 t a (inside (in_while stands)) in
        on-step tree ways Any (value_of (scope_of tree s) e) at s (λ v. test_step v e body at s.rest s) (number-gives tree s.frame is.frame s.memory e test.takes test.number)
        (λ v given. tested-step tree ways v e body at s.rest s runs_on is.frame is.calls (test, inner, own.1, is.rest))

    do-step : (body : Lines) (e : Expr) → Stands (DoWhile body e) → IsStep tree ways (stmt_step tree (DoWhile body e) at s)
    do-step body e own =
        let f = s.frame.function in
        let test = do-test tree f is.frame.known e body at (own.0 (DoWhile body e) at here) in
        let inner : AreOf f body = λ t a stands. own.0 t a (inside (in_do stands)) in
        goes-step tree ways (runs body (tests e body at s.rest)) s runs_on is.frame is.calls (inner, own.1, (test, inner, own.1, is.rest))

    for-step : (body : Lines) → Stands (Forever body) → IsStep tree ways (stmt_step tree (Forever body) at s)
    for-step body own =
        let inner : AreOf s.frame.function body = λ t a stands. own.0 t a (inside (in_for stands)) in
        goes-step tree ways (runs body (turns body s.rest)) s runs_on is.frame is.calls (inner, own.1, (inner, own.1, is.rest))

    choice-step : (e : Expr) (arms last : Arms) → Stands (Switch e arms last) → IsStep tree ways (stmt_step tree (Switch e arms last) at s)
    choice-step e arms last own =
        let f = s.frame.function in
        let names = declared_in tree f in
        let (tested, _) = and_parts (is_switch_value names e) (differ (cases_of arms) && at_most_one last) (allowed-of (Switch e arms last) own) in
        let typed = has-type (type_of names e) (λ t. not t.pointer && is_word_base (promoted_type t.base)) tested in
        on-step tree ways Any (value_of (scope_of tree s) e) at s (λ v. switch_step v arms last s) (value-holds tree s.frame is.frame s.memory e (takes-first f.body e [] (taken-of (Switch e arms last) own)) typed)
        (λ v given. goes-step tree ways (runs (arm_for (converted (plain Uint) v).bits arms (default_body last)) (ends_switch s.rest)) s runs_on is.frame is.calls (arm-rest tree f (converted (plain Uint) v).bits arms (default_body last) s.rest (λ t a stands. own.0 t a (inside (in_arm stands))) own.1.0 is.rest (default-rest tree f last s.rest (λ t a stands. own.0 t a (inside (in_default stands))) own.1.1 is.rest)))

    goto-step : (word : Word) → Stands (Goto word) → IsStep tree ways (stmt_step tree (Goto word) at s)
    goto-step word own =
        let f = s.frame.function in
        let (_, all) = and_parts (all_differ (labels_in f.body)) (list_all (is_among (labels_in f.body)) (flat_map goto_of (stmts_in f.body))) is.frame.known.allowed.labels in
        let there : is_some (after_goto f word) ≡ true = label-found f.body word (ends_function f.last) (goto-among f.body word at (own.0 (Goto word) at here) all) in
        jumped-step tree ways (after_goto f word) at s runs_on is there (lines-rest tree f is.frame.known f.body word (ends_function f.last) (λ t a stands. stands, is.frame.known.formed.jumps, refl))

    value-step : (e : Expr) → Stands (Return (Some e)) → IsStep tree ways (stmt_step tree (Return (Some e)) at s)
    value-step e own =
        by s.frame.function.result refl (allowed-of (Return (Some e)) own)
      where
        by : (result : Option CType) → s.frame.function.result ≡ result → elim result [ Some to ↦ fits (declared_in tree s.frame.function) to e | None ↦ false ] ≡ true →
            IsStep tree ways (give_step result (value_of (scope_of tree s) e) at s)
        by None has fit = absurd cc
        by (Some type) has fit =
            give-step tree ways type (value_of (scope_of tree s) e) at s runs_on is.calls (no-start s.frame.function is.frame.known type has) (fitting-gives tree s.frame is.frame s.memory e type (takes-first s.frame.function.body e [] (taken-of (Return (Some e)) own)) fit)

    plain-step : Stands (Return None) → (is_start s.frame.function ≡ true → ways at) → IsStep tree ways (return_step at s)
    plain-step own start = return-step tree ways at s runs_on is.calls (no-result (is_some s.frame.function.result) (allowed-of (Return None) own)) start

    pub made-step : (stmt : Stmt) → Stands stmt → (is_start s.frame.function ≡ true → stmt ≡ Return None → ways at) → IsStep tree ways (stmt_step tree stmt at s)
    made-step (Assign place e) own start = assign-step place e own
    made-step (Call place word arguments depth) own start = call-step place word arguments depth own
    made-step (If e body otherwise) own start = if-step e body otherwise own
    made-step (While e body) own start = while-step e body own
    made-step (DoWhile body e) own start = do-step body e own
    made-step (Forever body) own start = for-step body own
    made-step (Switch e arms last) own start = choice-step e arms last own
    made-step Break own start = jumped-step tree ways (after_break s.rest) at s runs_on is own.1 (break-rest tree s.frame.function s.rest is.rest)
    made-step Continue own start = jumped-step tree ways (after_continue s.rest) at s runs_on is own.1 (continue-rest tree s.frame.function s.rest is.rest)
    made-step (Goto word) own start = goto-step word own
    made-step (Label word) own start = still runs_on is
    made-step Empty own start = still runs_on is
    made-step (Return None) own start = plain-step own (λ first. start first refl)
    made-step (Return (Some e)) own start = value-step e own
