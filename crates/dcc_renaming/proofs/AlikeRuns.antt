-- A text with other names runs alike: each step of it, in the state with other names, is the step of the text.
use Rattle.std.proofs.Common.{◌≡◌, ℕ, zero, suc, Bool, true, false, List, [], ◌∷◌, ◌++◌, map, Option, Some, None, refl, sym, ap, ap₂, ◌∙◌}
use Rattle.std.specs.Prelude.{if◌then◌else◌, option_map, ◌||◌, ◌==◌, is_some}
use Rattle.std.specs.List.{list_any}
use Rattle.std.proofs.lemmas.List.{map-append}
use Rattle.dcc_run.specs.End.{Stuck, is_over}
use Rattle.dcc_run.specs.Event.{Took, MetEnd, writes}
use Rattle.dcc_run.specs.System.{after}
use Rattle.dcc_c.specs.declared.syntax.Base.TheVariants.{Uint}
use Rattle.dcc_c.specs.declared.syntax.CType.{CType}
use Rattle.dcc_c.specs.Types.{plain}
use Rattle.dcc_c.specs.Token.{same_bytes}
use Rattle.dcc_c.specs.Tree.{Word, Expr, Stmt, Assign, Call, If, While, DoWhile, Forever, Switch, Break, Continue, Goto, Label, Empty, Return, Lines, no_lines, line, Arms, no_arms, arm, Global, Variable, Function, Tree}
use Rattle.dcc_c.specs.Placement.{below, params_of_call, locals_of_call}
use Rattle.dcc_c.specs.Value.{Value, is_zero, converted, Outcome, Gives, Divides, Undefined, value_of, Target, ToVariable, ToMemory, target_of}
use Rattle.dcc_c.specs.Dos.{Dos, Putc, Getche, Getch, Puts, Leave, dos_of, dos_signature}
use Rattle.dcc_c.specs.Run.{Continuation, ends_function, runs, tests, turns, ends_switch, Frame, Waiting, State, with_end, goes_on, on, global_binding, scope_of, frame_of, param_bindings, local_bindings, with_arguments, takes, after_break, after_continue, first_of, from_label, from_label_inside, from_label_in_arms, after_goto, arm_for, default_body, if_step, test_step, switch_step, jump_step, result_step, back_step, is_start, close_step, return_step, give_step, with_events, key_step, dos_step, arguments_of, result_target, enter_step, function_in, param_types, call_step, dos_or_call_step, stmt_step, step_at, step, with_globals, with_values, first_state}
use Rattle.dcc_renaming.specs.Renamed.{renamed_expr, renamed_stmt, renamed_lines, renamed_arms, renamed_variable, renamed_global}
use Rattle.dcc_renaming.specs.Alike.{RunAlike}
use Rattle.dcc_renaming.proofs.AlikeNames.{AreNames, new_function, new_tree}
use Rattle.dcc_renaming.proofs.AlikeValues.{outcome_map, renamed_binding, renamed_scope, renamed_target, value-renamed, target-renamed, arguments-renamed, result-renamed, assigned-renamed}
use Rattle.dcc_renaming.proofs.AlikeBodies.{params-placed, locals-placed, params-bound, locals-bound}

module _ (outer : Word → Word) (own : Word → Word → Word) where
  abbrev pub new_rest : Word → Continuation → Continuation
  new_rest f (ends_function at) = ends_function at
  new_rest f (runs lines rest) = runs (renamed_lines (own f) outer lines) (new_rest f rest)
  new_rest f (tests e body at rest) = tests (renamed_expr (own f) e) (renamed_lines (own f) outer body) at (new_rest f rest)
  new_rest f (turns body rest) = turns (renamed_lines (own f) outer body) (new_rest f rest)
  new_rest f (ends_switch rest) = ends_switch (new_rest f rest)

  abbrev pub new_frame : Frame → Frame
  new_frame frame = record {
    function = new_function outer own frame.function;
    base = frame.base;
    variables = map (renamed_binding (own frame.function.name)) frame.variables;
  }

  abbrev pub new_waiting : Waiting → Waiting
  new_waiting w = record {
    frame = new_frame w.frame;
    rest = new_rest w.frame.function.name w.rest;
    target = option_map (renamed_target (own w.frame.function.name)) w.target;
  }

  abbrev pub new_state : State → State
  new_state s = record {
    rest = new_rest s.frame.function.name s.rest;
    frame = new_frame s.frame;
    waiting = map new_waiting s.waiting;
    fill = s.fill;
    memory = s.memory;
    input = s.input;
    events = s.events;
    end = s.end;
  }

  -- Jumps.

  break-renamed : (f : Word) (rest : Continuation) → after_break (new_rest f rest) ≡ option_map (new_rest f) (after_break rest)
  break-renamed f (ends_function at) = refl
  break-renamed f (runs lines rest) = break-renamed f rest
  break-renamed f (tests e body at rest) = refl
  break-renamed f (turns body rest) = refl
  break-renamed f (ends_switch rest) = refl

  continue-renamed : (f : Word) (rest : Continuation) → after_continue (new_rest f rest) ≡ option_map (new_rest f) (after_continue rest)
  continue-renamed f (ends_function at) = refl
  continue-renamed f (runs lines rest) = continue-renamed f rest
  continue-renamed f (tests e body at rest) = refl
  continue-renamed f (turns body rest) = refl
  continue-renamed f (ends_switch rest) = continue-renamed f rest

  first-renamed : (f : Word) (a b : Option Continuation) {x y : Option Continuation} → x ≡ option_map (new_rest f) a → y ≡ option_map (new_rest f) b →
      first_of x y ≡ option_map (new_rest f) (first_of a b)
  first-renamed f a b first second = ap₂ first_of first second ∙ both a where
    both : (a : Option Continuation) → first_of (option_map (new_rest f) a) (option_map (new_rest f) b) ≡ option_map (new_rest f) (first_of a b)
    both (Some rest) = refl
    both None = refl

  label-here : (f word other : Word) (at : ℕ) (lines : Lines) (rest : Continuation) (b : Bool) →
      (if b then Some (new_rest f (runs (line (Label other) at lines) rest)) else None) ≡ option_map (new_rest f) (if b then Some (runs (line (Label other) at lines) rest) else None)
  label-here f word other at lines rest true = refl
  label-here f word other at lines rest false = refl

  mutual
    label-renamed : (f word : Word) (lines : Lines) (rest : Continuation) →
        from_label word (renamed_lines (own f) outer lines) (new_rest f rest) ≡ option_map (new_rest f) (from_label word lines rest)
    label-renamed f word no_lines rest = refl
    label-renamed f word (line s at lines) rest =
        first-renamed f (from_label_inside word s at lines rest) (from_label word lines rest) (inside-renamed f word s at lines rest) (label-renamed f word lines rest)

    inside-renamed : (f word : Word) (s : Stmt) (at : ℕ) (lines : Lines) (rest : Continuation) →
        from_label_inside word (renamed_stmt (own f) outer s) at (renamed_lines (own f) outer lines) (new_rest f rest) ≡ option_map (new_rest f) (from_label_inside word s at lines rest)
    inside-renamed f word (Label other) at lines rest = label-here f word other at lines rest (same_bytes word other)
    inside-renamed f word (If e body otherwise) at lines rest =
        first-renamed f (from_label word body (runs lines rest)) (from_label word otherwise (runs lines rest)) (label-renamed f word body (runs lines rest)) (label-renamed f word otherwise (runs lines rest))
    inside-renamed f word (While e body) at lines rest = label-renamed f word body (tests e body at (runs lines rest))
    inside-renamed f word (DoWhile body e) at lines rest = label-renamed f word body (tests e body at (runs lines rest))
    inside-renamed f word (Forever body) at lines rest = label-renamed f word body (turns body (runs lines rest))
    inside-renamed f word (Switch e arms last) at lines rest =
        first-renamed f (from_label_in_arms word arms (ends_switch (runs lines rest))) (from_label_in_arms word last (ends_switch (runs lines rest)))
        (label-arms f word arms (ends_switch (runs lines rest))) (label-arms f word last (ends_switch (runs lines rest)))
    inside-renamed f word (Assign place e) at lines rest = refl
    inside-renamed f word (Call place function arguments depth) at lines rest = refl
    inside-renamed f word Break at lines rest = refl
    inside-renamed f word Continue at lines rest = refl
    inside-renamed f word (Goto other) at lines rest = refl
    inside-renamed f word Empty at lines rest = refl
    inside-renamed f word (Return e) at lines rest = refl

    label-arms : (f word : Word) (arms : Arms) (rest : Continuation) →
        from_label_in_arms word (renamed_arms (own f) outer arms) (new_rest f rest) ≡ option_map (new_rest f) (from_label_in_arms word arms rest)
    label-arms f word no_arms rest = refl
    label-arms f word (arm cases body arms) rest =
        first-renamed f (from_label word body rest) (from_label_in_arms word arms rest) (label-renamed f word body rest) (label-arms f word arms rest)

  arm-renamed : (f : Word) (n : ℕ) (arms : Arms) (otherwise : Lines) →
      arm_for n (renamed_arms (own f) outer arms) (renamed_lines (own f) outer otherwise) ≡ renamed_lines (own f) outer (arm_for n arms otherwise)
  arm-renamed f n no_arms otherwise = refl
  arm-renamed f n (arm cases body arms) otherwise = either (list_any (λ c. c == n) cases) (arm-renamed f n arms otherwise) where
    either : (b : Bool) → arm_for n (renamed_arms (own f) outer arms) (renamed_lines (own f) outer otherwise) ≡ renamed_lines (own f) outer (arm_for n arms otherwise) →
        (if b then renamed_lines (own f) outer body else arm_for n (renamed_arms (own f) outer arms) (renamed_lines (own f) outer otherwise))
        ≡ renamed_lines (own f) outer (if b then body else arm_for n arms otherwise)
    either true e = refl
    either false e = e

  default-renamed : (f : Word) (arms : Arms) → default_body (renamed_arms (own f) outer arms) ≡ renamed_lines (own f) outer (default_body arms)
  default-renamed f no_arms = refl
  default-renamed f (arm cases body arms) = refl

  -- A step that goes on with what an evaluation gives.
  on-mapped : {A B : Type 0} (made : A → B) (o : Outcome A) (at : ℕ) (s : State) (next : A → State) (following : B → State) →
      ((a : A) → following (made a) ≡ new_state (next a)) → on (outcome_map made o) at (new_state s) following ≡ new_state (on o at s next)
  on-mapped made (Gives a) at s next following goes = goes a
  on-mapped made Divides at s next following goes = refl
  on-mapped made Undefined at s next following goes = refl

  on-renamed : {A B : Type 0} (made : A → B) (o : Outcome A) {found : Outcome B} (at : ℕ) (s : State) (next : A → State) (following : B → State) →
      found ≡ outcome_map made o → ((a : A) → following (made a) ≡ new_state (next a)) → on found at (new_state s) following ≡ new_state (on o at s next)
  on-renamed made o at s next following same goes = ap (λ x. on x at (new_state s) following) same ∙ on-mapped made o at s next following goes

  -- where the value itself is the same
  on-kept : {A : Type 0} (o : Outcome A) (at : ℕ) (s : State) (next following : A → State) →
      ((a : A) → following a ≡ new_state (next a)) → on o at (new_state s) following ≡ new_state (on o at s next)
  on-kept (Gives a) at s next following goes = goes a
  on-kept Divides at s next following goes = refl
  on-kept Undefined at s next following goes = refl

  on-same : {A : Type 0} (o : Outcome A) {found : Outcome A} (at : ℕ) (s : State) (next following : A → State) →
      found ≡ o → ((a : A) → following a ≡ new_state (next a)) → on found at (new_state s) following ≡ new_state (on o at s next)
  on-same o at s next following same goes = ap (λ x. on x at (new_state s) following) same ∙ on-kept o at s next following goes

  -- one of two states
  either-renamed : (b : Bool) (s t : State) {u v : State} → u ≡ new_state s → v ≡ new_state t → (if b then u else v) ≡ new_state (if b then s else t)
  either-renamed true s t first second = first
  either-renamed false s t first second = second

  module _ (tree : Tree) (names : AreNames tree.globals outer own) where
    globals-bound : (f : Word) → map global_binding (map (renamed_global outer) tree.globals) ≡ map (renamed_binding (own f)) (map global_binding tree.globals)
    globals-bound f = ap (map global_binding) (sym (names.globals_same f)) ∙ each tree.globals where
      each : (gs : List Global) → map global_binding (map (renamed_global (own f)) gs) ≡ map (renamed_binding (own f)) (map global_binding gs)
      each [] = refl
      each (g ∷ gs) = ap (λ l. renamed_binding (own f) (global_binding g) ∷ l) (each gs)

    scope-renamed : (s : State) → scope_of (new_tree outer own tree) (new_state s) ≡ renamed_scope (own s.frame.function.name) (scope_of tree s)
    scope-renamed s =
        let o = own s.frame.function.name in
        ap (λ vs. record { variables = vs; memory = s.memory })
        (ap (λ gs. map (renamed_binding o) s.frame.variables ++ gs) (globals-bound s.frame.function.name)
        ∙ sym (map-append (renamed_binding o) s.frame.variables (map global_binding tree.globals)))

    value-new : (s : State) (e : Expr) → value_of (scope_of (new_tree outer own tree) (new_state s)) (renamed_expr (own s.frame.function.name) e) ≡ value_of (scope_of tree s) e
    value-new s e =
        let o = own s.frame.function.name in
        ap (λ scope. value_of scope (renamed_expr o e)) (scope-renamed s) ∙ value-renamed o (names.own_same s.frame.function.name) (scope_of tree s) e

    target-new : (s : State) (e : Expr) →
        target_of (scope_of (new_tree outer own tree) (new_state s)) (renamed_expr (own s.frame.function.name) e) ≡ outcome_map (renamed_target (own s.frame.function.name)) (target_of (scope_of tree s) e)
    target-new s e =
        let o = own s.frame.function.name in
        ap (λ scope. target_of scope (renamed_expr o e)) (scope-renamed s) ∙ target-renamed o (names.own_same s.frame.function.name) (scope_of tree s) e

    arguments-new : (s : State) (types : List CType) (es : List Expr) →
        arguments_of (scope_of (new_tree outer own tree) (new_state s)) types (map (renamed_expr (own s.frame.function.name)) es) ≡ arguments_of (scope_of tree s) types es
    arguments-new s types es =
        let o = own s.frame.function.name in
        ap (λ scope. arguments_of scope types (map (renamed_expr o) es)) (scope-renamed s) ∙ arguments-renamed o (names.own_same s.frame.function.name) (scope_of tree s) types es

    result-new : (s : State) (place : Option Expr) →
        result_target (scope_of (new_tree outer own tree) (new_state s)) (option_map (renamed_expr (own s.frame.function.name)) place)
        ≡ outcome_map (option_map (renamed_target (own s.frame.function.name))) (result_target (scope_of tree s) place)
    result-new s place =
        let o = own s.frame.function.name in
        ap (λ scope. result_target scope (option_map (renamed_expr o) place)) (scope-renamed s) ∙ result-renamed o (names.own_same s.frame.function.name) (scope_of tree s) place

    takes-new : (target : Target) (v : Value) (s : State) → takes (renamed_target (own s.frame.function.name) target) v (new_state s) ≡ new_state (takes target v s)
    takes-new (ToVariable word) v s =
        let o = own s.frame.function.name in
        ap (λ vs. record (new_state s) { frame = record (new_frame s.frame) { variables = vs } }) (assigned-renamed o (names.own_same s.frame.function.name) s.frame.variables word v)
    takes-new (ToMemory type at) v s = refl

    result-step : (target : Option Target) (v : Option Value) (at : ℕ) (s : State) →
        result_step (option_map (renamed_target (own s.frame.function.name)) target) v at (new_state s) ≡ new_state (result_step target v at s)
    result-step None v at s = refl
    result-step (Some target) (Some v) at s = takes-new target v s
    result-step (Some target) None at s = refl

    back-step : (waiting : List Waiting) (v : Option Value) (at : ℕ) (s : State) → back_step (map new_waiting waiting) v at (new_state s) ≡ new_state (back_step waiting v at s)
    back-step [] v at s = refl
    back-step (w ∷ waiting) v at s = result-step w.target v at (record s { rest = w.rest; frame = w.frame; waiting = waiting })

    start-new : (f : Function) → is_start (new_function outer own f) ≡ is_start f
    start-new f = names.start f.name

    close-step : (at : ℕ) (s : State) → close_step at (new_state s) ≡ new_state (close_step at s)
    close-step at s =
        ap (λ b. if b || is_some s.frame.function.result then with_end (Stuck at) (new_state s) else back_step (map new_waiting s.waiting) None at (new_state s)) (start-new s.frame.function)
        ∙ either-renamed (is_start s.frame.function || is_some s.frame.function.result) (with_end (Stuck at) s) (back_step s.waiting None at s) refl (back-step s.waiting None at s)

    return-step : (at : ℕ) (s : State) → return_step at (new_state s) ≡ new_state (return_step at s)
    return-step at s =
        ap (λ b. if b then with_end (Stuck at) (new_state s) else back_step (map new_waiting s.waiting) None at (new_state s)) (start-new s.frame.function)
        ∙ either-renamed (is_start s.frame.function) (with_end (Stuck at) s) (back_step s.waiting None at s) refl (back-step s.waiting None at s)

    give-step : (type : Option CType) (v : Outcome Value) {v' : Outcome Value} (at : ℕ) (s : State) → v' ≡ v → give_step type v' at (new_state s) ≡ new_state (give_step type v at s)
    give-step None v at s same = refl
    give-step (Some type) v {v'} at s same =
        let given : on v' at (new_state s) (λ v. back_step (map new_waiting s.waiting) (Some (converted type v)) at (new_state s)) ≡ new_state (on v at s (λ v. back_step s.waiting (Some (converted type v)) at s)) =
        on-same v at s _ _ same (λ v. back-step s.waiting (Some (converted type v)) at s) in
        ap (λ b. if b then with_end (Stuck at) (new_state s) else on v' at (new_state s) (λ v. back_step (map new_waiting s.waiting) (Some (converted type v)) at (new_state s))) (start-new s.frame.function)
        ∙ either-renamed (is_start s.frame.function) (with_end (Stuck at) s) (on v at s (λ v. back_step s.waiting (Some (converted type v)) at s)) refl given

    key-step : (echo : Bool) (input : List ℕ) (target : Option Target) (at : ℕ) (s : State) →
        key_step echo input (option_map (renamed_target (own s.frame.function.name)) target) at (new_state s) ≡ new_state (key_step echo input target at s)
    key-step echo [] target at s = result-step target _ at (with_events (MetEnd ∷ []) s)
    key-step echo (byte ∷ rest) target at s =
        result-step target _ at (with_events (Took byte ∷ writes (if echo then byte ∷ [] else [])) (record s { input = rest }))

    dos-step : (dos : Dos) (target : Option Target) (arguments : List Value) (at : ℕ) (s : State) →
        dos_step dos (option_map (renamed_target (own s.frame.function.name)) target) arguments at (new_state s) ≡ new_state (dos_step dos target arguments at s)
    dos-step Getche target [] at s = key-step true s.input target at s
    dos-step Getch target [] at s = key-step false s.input target at s
    dos-step Getche target (v ∷ vs) at s = refl
    dos-step Getch target (v ∷ vs) at s = refl
    dos-step Putc None [] at s = refl
    dos-step Putc None (v ∷ []) at s = refl
    dos-step Putc None (v ∷ w ∷ vs) at s = refl
    dos-step Putc (Some target) arguments at s = refl
    dos-step Puts None [] at s = refl
    dos-step Puts None (v ∷ []) at s = refl
    dos-step Puts None (v ∷ w ∷ vs) at s = refl
    dos-step Puts (Some target) arguments at s = refl
    dos-step Leave None [] at s = refl
    dos-step Leave None (v ∷ []) at s = refl
    dos-step Leave None (v ∷ w ∷ vs) at s = refl
    dos-step Leave (Some target) arguments at s = refl

    -- Calls.

    params-same : (f : Function) (base : ℕ) → params_of_call (new_function outer own f) base ≡ params_of_call f base
    params-same f base = params-placed (own f.name) outer (names.own_same f.name) f.body base 0 false f.params

    locals-same : (f : Function) (base : ℕ) → locals_of_call (new_function outer own f) base ≡ locals_of_call f base
    locals-same f base = locals-placed (own f.name) outer (names.own_same f.name) base 4 f.locals

    frame-new : (f : Function) (base fill : ℕ) (arguments : List Value) → frame_of (new_function outer own f) base fill arguments ≡ new_frame (frame_of f base fill arguments)
    frame-new f base fill arguments =
        let o = own f.name in
        ap (λ vs. record { function = new_function outer own f; base = base; variables = vs })
        (ap₂ (λ a b. a ++ b)
        (ap (λ places. param_bindings (map (renamed_variable o) f.params) places arguments) (params-same f base) ∙ params-bound o outer f.params (params_of_call f base) arguments)
        (ap (λ places. local_bindings fill (map (renamed_variable o) f.locals) places) (locals-same f base) ∙ locals-bound o outer fill f.locals (locals_of_call f base))
        ∙ sym (map-append (renamed_binding o) (param_bindings f.params (params_of_call f base) arguments) (local_bindings fill f.locals (locals_of_call f base))))

    enter-step : (f : Function) (depth : ℕ) (target : Option Target) (arguments : List Value) (s : State) →
        enter_step (new_function outer own f) depth (option_map (renamed_target (own s.frame.function.name)) target) arguments (new_state s) ≡ new_state (enter_step f depth target arguments s)
    enter-step f depth target arguments s =
        let base = below s.frame.base depth in
        ap₂ (λ frame memory. record (new_state s) {
          rest = new_rest f.name (runs f.body (ends_function f.last));
          frame = frame;
          waiting = record { frame = new_frame s.frame; rest = new_rest s.frame.function.name s.rest; target = option_map (renamed_target (own s.frame.function.name)) target } ∷ map new_waiting s.waiting;
          memory = memory;
        }) (frame-new f base s.fill arguments) (ap (λ places. with_arguments places arguments s.memory) (params-same f base))

    pub found-new : (functions : List Function) (word : Word) → function_in (map (new_function outer own) functions) (outer word) ≡ option_map (new_function outer own) (function_in functions word)
    found-new [] word = refl
    found-new (f ∷ functions) word =
        ap (λ b. if b then Some (new_function outer own f) else function_in (map (new_function outer own) functions) (outer word)) (names.outer_same f.name word)
        ∙ either (same_bytes f.name word) (found-new functions word) where
          either : (b : Bool) → function_in (map (new_function outer own) functions) (outer word) ≡ option_map (new_function outer own) (function_in functions word) →
              (if b then Some (new_function outer own f) else function_in (map (new_function outer own) functions) (outer word)) ≡ option_map (new_function outer own) (if b then Some f else function_in functions word)
          either true e = refl
          either false e = e

    pub types-same : (o : Word → Word) (params : List Variable) → map (λ v. v.type) (map (renamed_variable o) params) ≡ map (λ v. v.type) params
    types-same o [] = refl
    types-same o (v ∷ params) = ap (λ l. v.type ∷ l) (types-same o params)

    call-step : (f : Option Function) (target : Option Target) (arguments : List Expr) (depth at : ℕ) (s : State) →
        call_step (option_map (new_function outer own) f) (scope_of (new_tree outer own tree) (new_state s)) (option_map (renamed_target (own s.frame.function.name)) target)
        (map (renamed_expr (own s.frame.function.name)) arguments) depth at (new_state s)
        ≡ new_state (call_step f (scope_of tree s) target arguments depth at s)
    call-step None target arguments depth at s = refl
    call-step (Some f) target arguments depth at s =
        on-same (arguments_of (scope_of tree s) (param_types f) arguments) at s _ _
        (ap (λ types. arguments_of (scope_of (new_tree outer own tree) (new_state s)) types (map (renamed_expr (own s.frame.function.name)) arguments)) (types-same (own f.name) f.params)
        ∙ arguments-new s (param_types f) arguments)
        (λ vs. enter-step f depth target vs s)

    either-call : (dos : Option Dos) (word : Word) (target : Option Target) (arguments : List Expr) (depth at : ℕ) (s : State) →
        dos_or_call_step (new_tree outer own tree) dos (outer word) (option_map (renamed_target (own s.frame.function.name)) target)
        (map (renamed_expr (own s.frame.function.name)) arguments) depth at (new_state s)
        ≡ new_state (dos_or_call_step tree dos word target arguments depth at s)
    either-call (Some dos) word target arguments depth at s =
        on-same (arguments_of (scope_of tree s) (dos_signature dos).params arguments) at s _ _ (arguments-new s (dos_signature dos).params arguments) (λ vs. dos-step dos target vs at s)
    either-call None word target arguments depth at s =
        ap (λ f. call_step f (scope_of (new_tree outer own tree) (new_state s)) (option_map (renamed_target (own s.frame.function.name)) target)
        (map (renamed_expr (own s.frame.function.name)) arguments) depth at (new_state s)) (found-new tree.functions word)
        ∙ call-step (function_in tree.functions word) target arguments depth at s

    -- Statements.

    jump-step : (to : Option Continuation) {to' : Option Continuation} (at : ℕ) (s : State) → to' ≡ option_map (new_rest s.frame.function.name) to →
        jump_step to' at (new_state s) ≡ new_state (jump_step to at s)
    jump-step to at s same = ap (λ t. jump_step t at (new_state s)) same ∙ cases to where
      cases : (to : Option Continuation) → jump_step (option_map (new_rest s.frame.function.name) to) at (new_state s) ≡ new_state (jump_step to at s)
      cases (Some rest) = refl
      cases None = refl

    if-step : (v : Value) (body otherwise : Lines) (s : State) →
        if_step v (renamed_lines (own s.frame.function.name) outer body) (renamed_lines (own s.frame.function.name) outer otherwise) (new_state s) ≡ new_state (if_step v body otherwise s)
    if-step v body otherwise s = cases (is_zero v) where
      cases : (b : Bool) → goes_on (runs (if b then renamed_lines (own s.frame.function.name) outer otherwise else renamed_lines (own s.frame.function.name) outer body) (new_rest s.frame.function.name s.rest)) (new_state s)
          ≡ new_state (goes_on (runs (if b then otherwise else body) s.rest) s)
      cases true = refl
      cases false = refl

    test-step : (v : Value) (e : Expr) (body : Lines) (at : ℕ) (rest : Continuation) (s : State) →
        test_step v (renamed_expr (own s.frame.function.name) e) (renamed_lines (own s.frame.function.name) outer body) at (new_rest s.frame.function.name rest) (new_state s)
        ≡ new_state (test_step v e body at rest s)
    test-step v e body at rest s = cases (is_zero v) where
      cases : (b : Bool) → goes_on (if b then new_rest s.frame.function.name rest else new_rest s.frame.function.name (runs body (tests e body at rest))) (new_state s)
          ≡ new_state (goes_on (if b then rest else runs body (tests e body at rest)) s)
      cases true = refl
      cases false = refl

    switch-step : (v : Value) (arms last : Arms) (s : State) →
        switch_step v (renamed_arms (own s.frame.function.name) outer arms) (renamed_arms (own s.frame.function.name) outer last) (new_state s) ≡ new_state (switch_step v arms last s)
    switch-step v arms last s =
        let f = s.frame.function.name in
        let n = (converted (plain Uint) v).bits in
        ap (λ lines. goes_on (runs lines (ends_switch (new_rest f s.rest))) (new_state s))
        (ap (arm_for n (renamed_arms (own f) outer arms)) (default-renamed f last) ∙ arm-renamed f n arms (default_body last))

    stmt-step : (stmt : Stmt) (at : ℕ) (s : State) → stmt_step (new_tree outer own tree) (renamed_stmt (own s.frame.function.name) outer stmt) at (new_state s) ≡ new_state (stmt_step tree stmt at s)
    stmt-step (Assign place e) at s =
        on-same (value_of (scope_of tree s) e) at s _ _ (value-new s e)
        (λ v. on-renamed (renamed_target (own s.frame.function.name)) (target_of (scope_of tree s) place) at s _ _ (target-new s place) (λ target. takes-new target v s))
    stmt-step (Call place function arguments depth) at s =
        on-renamed (option_map (renamed_target (own s.frame.function.name))) (result_target (scope_of tree s) place) at s _ _ (result-new s place)
        (λ target. ap (λ dos. dos_or_call_step (new_tree outer own tree) dos (outer function) (option_map (renamed_target (own s.frame.function.name)) target)
        (map (renamed_expr (own s.frame.function.name)) arguments) depth at (new_state s)) (names.dos function)
        ∙ either-call (dos_of function) function target arguments depth at s)
    stmt-step (If e body otherwise) at s = on-same (value_of (scope_of tree s) e) at s _ _ (value-new s e) (λ v. if-step v body otherwise s)
    stmt-step (While e body) at s = on-same (value_of (scope_of tree s) e) at s _ _ (value-new s e) (λ v. test-step v e body at s.rest s)
    stmt-step (DoWhile body e) at s = refl
    stmt-step (Forever body) at s = refl
    stmt-step (Switch e arms last) at s = on-same (value_of (scope_of tree s) e) at s _ _ (value-new s e) (λ v. switch-step v arms last s)
    stmt-step Break at s = jump-step (after_break s.rest) at s (break-renamed s.frame.function.name s.rest)
    stmt-step Continue at s = jump-step (after_continue s.rest) at s (continue-renamed s.frame.function.name s.rest)
    stmt-step (Goto word) at s =
        jump-step (after_goto s.frame.function word) at s (label-renamed s.frame.function.name word s.frame.function.body (ends_function s.frame.function.last))
    stmt-step (Label word) at s = refl
    stmt-step Empty at s = refl
    stmt-step (Return None) at s = return-step at s
    stmt-step (Return (Some e)) at s = give-step s.frame.function.result (value_of (scope_of tree s) e) at s (value-new s e)

    at-step : (rest : Continuation) (s : State) → step_at (new_tree outer own tree) (new_rest s.frame.function.name rest) (new_state s) ≡ new_state (step_at tree rest s)
    at-step (ends_function at) s = close-step at s
    at-step (runs no_lines rest) s = at-step rest s
    at-step (runs (line stmt at lines) rest) s = stmt-step stmt at (goes_on (runs lines rest) s)
    at-step (tests e body at rest) s = on-same (value_of (scope_of tree s) e) at s _ _ (value-new s e) (λ v. test-step v e body at rest s)
    at-step (turns body rest) s = refl
    at-step (ends_switch rest) s = at-step rest s

    pub step-renamed : (s : State) → step (new_tree outer own tree) (new_state s) ≡ new_state (step tree s)
    step-renamed s = either-renamed (is_over s.end) s (step_at tree s.rest s) refl (at-step s.rest s)

    pub run-renamed : (n : ℕ) (s : State) → after (step (new_tree outer own tree)) n (new_state s) ≡ new_state (after (step tree) n s)
    run-renamed zero s = refl
    run-renamed (suc n) s = ap (after (step (new_tree outer own tree)) n) (step-renamed s) ∙ run-renamed n (step tree s)

    memory-same : (globals : List Global) (memory : List ℕ) → with_globals (map (renamed_global outer) globals) memory ≡ with_globals globals memory
    memory-same [] memory = refl
    memory-same (g ∷ globals) memory = memory-same globals (with_values g.type g.at g.init memory)

    pub first-renamed_state : (start : Function) (fill : ℕ) (input : List ℕ) →
        first_state (new_tree outer own tree) (new_function outer own start) fill input ≡ new_state (first_state tree start fill input)
    first-renamed_state start fill input =
        ap₂ (λ frame memory. record (new_state (first_state tree start fill input)) { frame = frame; memory = memory })
        (frame-new start _ fill []) (memory-same tree.globals _)

-- a text with other names runs alike
pub texts-alike : (tree : Tree) (start : Function) (outer : Word → Word) (own : Word → Word → Word) → AreNames tree.globals outer own →
    RunAlike tree (new_tree outer own tree) start (new_function outer own start)
texts-alike tree start outer own names = record {
  events = λ fill n input. ap (λ s. s.events) (all fill n input);
  end = λ fill n input. ap (λ s. s.end) (all fill n input);
} where
  all : (fill n : ℕ) (input : List ℕ) →
      after (step (new_tree outer own tree)) n (first_state (new_tree outer own tree) (new_function outer own start) fill input)
      ≡ new_state outer own (after (step tree) n (first_state tree start fill input))
  all fill n input =
      ap (after (step (new_tree outer own tree)) n) (first-renamed_state outer own tree names start fill input)
      ∙ run-renamed outer own tree names n (first_state tree start fill input)
