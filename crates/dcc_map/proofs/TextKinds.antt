-- What a step of a text does at the console.
use Rattle.std.proofs.Common.{◌≡◌, ℕ, Bool, true, false, List, [], ◌∷◌, ◌++◌, Option, Some, None, refl, sym, ap, ◌∙◌}
use Rattle.std.proofs.lemmas.List.{append-nil}
use Rattle.std.specs.Prelude.{◌||◌, if◌then◌else◌, is_some}
use Rattle.dcc_run.specs.End.{Exit, Divide, Stuck, is_over}
use Rattle.dcc_run.specs.Event.{Event, writes}
use Rattle.dcc_c.specs.declared.syntax.CType.{CType}
use Rattle.dcc_c.specs.Tree.{Word, Expr, Stmt, Assign, Call, If, While, DoWhile, Forever, Switch, Break, Continue, Goto, Label, Empty, Return, no_lines, line, Function, Tree}
use Rattle.dcc_c.specs.Value.{Value, converted, Outcome, Gives, Divides, Undefined, given, Scope, value_of, Target, ToVariable, ToMemory, target_of}
use Rattle.dcc_c.specs.Dos.{Dos, Putc, Getche, Getch, Puts, Leave, dos_of, dos_signature, string_at}
use Rattle.dcc_c.specs.Run.{Continuation, ends_function, runs, tests, turns, ends_switch, State, Waiting, with_end, goes_on, on, scope_of, takes, after_break, after_continue, after_goto, if_step, test_step, switch_step, jump_step, result_step, back_step, is_start, close_step, return_step, give_step, with_events, key_step, dos_step, arguments_of, enter_step, result_target, function_in, param_types, call_step, dos_or_call_step, stmt_step, step_at, step}
use Rattle.dcc_crun.specs.Stepped.{console_of}
use Rattle.dcc_console.specs.Console.{Console}
use Rattle.dcc_map.proofs.StepKinds.{IsApart, WritesBytes, TakesKey, StepKind, writes_bytes, takes_key, either_kind}

module _ (tree : Tree) where
  abbrev console : Console State
  console = console_of tree

  pub text_apart : IsApart console
  text_apart = record { same = λ s. refl; left = λ input s. refl; events = λ input s. refl }

  abbrev Kind : List Event → (List ℕ → State) → Type 0
  Kind before next = StepKind console before next

  abbrev with_input : List ℕ → State → State
  with_input input s = record s { input = input }

  -- a step that leaves the console as it is
  quiet : (s : State) → Kind s.events (λ input. with_input input s)
  quiet s = writes_bytes (record { bytes = []; events = λ input. sym (append-nil s.events); apart = λ input after. refl })

  on_kind : {A : Type 0} (o : Outcome A) (at : ℕ) (s : State) (next : List ℕ → A → State)
      → ((a : A) → Kind s.events (λ input. next input a)) → Kind s.events (λ input. on o at (with_input input s) (next input))
  on_kind (Gives a) at s next kind = kind a
  on_kind Divides at s next kind = quiet (with_end Divide s)
  on_kind Undefined at s next kind = quiet (with_end (Stuck at) s)

  takes_kind : (target : Target) (v : Value) (s : State) → Kind s.events (λ input. takes target v (with_input input s))
  takes_kind (ToVariable word) v s = quiet (takes (ToVariable word) v s)
  takes_kind (ToMemory type at) v s = quiet (takes (ToMemory type at) v s)

  result_kind : (target : Option Target) (v : Option Value) (at : ℕ) (s : State)
      → Kind s.events (λ input. result_step target v at (with_input input s))
  result_kind None v at s = quiet s
  result_kind (Some target) (Some v) at s = takes_kind target v s
  result_kind (Some target) None at s = quiet (with_end (Stuck at) s)

  back_kind : (waiting : List Waiting) (v : Option Value) (at : ℕ) (s : State)
      → Kind s.events (λ input. back_step waiting v at (with_input input s))
  back_kind [] v at s = quiet (with_end (Stuck at) s)
  back_kind (w ∷ waiting) v at s = result_kind w.target v at (record s { rest = w.rest; frame = w.frame; waiting = waiting })

  close_kind : (at : ℕ) (s : State) → Kind s.events (λ input. close_step at (with_input input s))
  close_kind at s =
      either_kind console s.events (λ input. with_end (Stuck at) (with_input input s)) (λ input. back_step s.waiting None at (with_input input s))
      (is_start s.frame.function || is_some s.frame.function.result) (quiet (with_end (Stuck at) s)) (back_kind s.waiting None at s)

  return_kind : (at : ℕ) (s : State) → Kind s.events (λ input. return_step at (with_input input s))
  return_kind at s =
      either_kind console s.events (λ input. with_end (Stuck at) (with_input input s)) (λ input. back_step s.waiting None at (with_input input s))
      (is_start s.frame.function) (quiet (with_end (Stuck at) s)) (back_kind s.waiting None at s)

  give_kind : (type : Option CType) (v : Outcome Value) (at : ℕ) (s : State)
      → Kind s.events (λ input. give_step type v at (with_input input s))
  give_kind None v at s = quiet (with_end (Stuck at) s)
  give_kind (Some type) v at s =
      either_kind console s.events (λ input. with_end (Stuck at) (with_input input s))
      (λ input. on v at (with_input input s) (λ v. back_step s.waiting (Some (converted type v)) at (with_input input s)))
      (is_start s.frame.function) (quiet (with_end (Stuck at) s))
      (on_kind v at s (λ input v. back_step s.waiting (Some (converted type v)) at (with_input input s))
      (λ v. back_kind s.waiting (Some (converted type v)) at s))

  key_kind : (echo : Bool) (target : Option Target) (at : ℕ) (s : State) → Kind s.events (λ input. key_step echo input target at (with_input input s))
  key_kind echo None at s = takes_key (record {
    echo = echo;
    key = λ byte rest. refl;
    key_left = λ byte. refl;
    key_happens = λ byte. refl;
    end_left = refl;
    end_happens = refl;
  })
  key_kind echo (Some (ToVariable word)) at s = takes_key (record {
    echo = echo;
    key = λ byte rest. refl;
    key_left = λ byte. refl;
    key_happens = λ byte. refl;
    end_left = refl;
    end_happens = refl;
  })
  key_kind echo (Some (ToMemory type place)) at s = takes_key (record {
    echo = echo;
    key = λ byte rest. refl;
    key_left = λ byte. refl;
    key_happens = λ byte. refl;
    end_left = refl;
    end_happens = refl;
  })

  written : (bytes : List ℕ) (s : State) → Kind s.events (λ input. with_events (writes bytes) (with_input input s))
  written bytes s = writes_bytes (record { bytes = bytes; events = λ input. refl; apart = λ input after. refl })

  dos_kind : (dos : Dos) (target : Option Target) (arguments : List Value) (at : ℕ) (s : State)
      → Kind s.events (λ input. dos_step dos target arguments at (with_input input s))
  dos_kind Putc None (v ∷ []) at s = written (v.bits ∷ []) s
  dos_kind Puts None (v ∷ []) at s = written (string_at s.memory v.bits) s
  dos_kind Leave None (v ∷ []) at s = quiet (with_end (Exit v.bits) s)
  dos_kind Getche target [] at s = key_kind true target at s
  dos_kind Getch target [] at s = key_kind false target at s
  dos_kind _ target arguments at s = quiet (with_end (Stuck at) s)

  call_kind : (function : Option Function) (scope : Scope) (target : Option Target) (arguments : List Expr) (depth at : ℕ) (s : State)
      → Kind s.events (λ input. call_step function scope target arguments depth at (with_input input s))
  call_kind None scope target arguments depth at s = quiet (with_end (Stuck at) s)
  call_kind (Some function) scope target arguments depth at s =
      on_kind (arguments_of scope (param_types function) arguments) at s (λ input vs. enter_step function depth target vs (with_input input s))
      (λ vs. quiet (enter_step function depth target vs s))

  dos_or_call_kind : (dos : Option Dos) (word : Word) (target : Option Target) (arguments : List Expr) (depth at : ℕ) (s : State)
      → Kind s.events (λ input. dos_or_call_step tree dos word target arguments depth at (with_input input s))
  dos_or_call_kind (Some dos) word target arguments depth at s =
      on_kind (arguments_of (scope_of tree s) (dos_signature dos).params arguments) at s (λ input vs. dos_step dos target vs at (with_input input s))
      (λ vs. dos_kind dos target vs at s)
  dos_or_call_kind None word target arguments depth at s =
      call_kind (function_in tree.functions word) (scope_of tree s) target arguments depth at s

  jump_kind : (to : Option Continuation) (at : ℕ) (s : State) → Kind s.events (λ input. jump_step to at (with_input input s))
  jump_kind to at s = on_kind (given to) at s (λ input rest. goes_on rest (with_input input s)) (λ rest. quiet (goes_on rest s))

  stmt_kind : (stmt : Stmt) (at : ℕ) (s : State) → Kind s.events (λ input. stmt_step tree stmt at (with_input input s))
  stmt_kind (Assign place e) at s =
      on_kind (value_of (scope_of tree s) e) at s (λ input v. on (target_of (scope_of tree s) place) at (with_input input s) (λ target. takes target v (with_input input s)))
      (λ v. on_kind (target_of (scope_of tree s) place) at s (λ input target. takes target v (with_input input s)) (λ target. takes_kind target v s))
  stmt_kind (Call place function arguments depth) at s =
      on_kind (result_target (scope_of tree s) place) at s (λ input target. dos_or_call_step tree (dos_of function) function target arguments depth at (with_input input s))
      (λ target. dos_or_call_kind (dos_of function) function target arguments depth at s)
  stmt_kind (If e body otherwise) at s =
      on_kind (value_of (scope_of tree s) e) at s (λ input v. if_step v body otherwise (with_input input s)) (λ v. quiet (if_step v body otherwise s))
  stmt_kind (While e body) at s =
      on_kind (value_of (scope_of tree s) e) at s (λ input v. test_step v e body at s.rest (with_input input s)) (λ v. quiet (test_step v e body at s.rest s))
  stmt_kind (DoWhile body e) at s = quiet (goes_on (runs body (tests e body at s.rest)) s)
  stmt_kind (Forever body) at s = quiet (goes_on (runs body (turns body s.rest)) s)
  stmt_kind (Switch e arms last) at s =
      on_kind (value_of (scope_of tree s) e) at s (λ input v. switch_step v arms last (with_input input s)) (λ v. quiet (switch_step v arms last s))
  stmt_kind Break at s = jump_kind (after_break s.rest) at s
  stmt_kind Continue at s = jump_kind (after_continue s.rest) at s
  stmt_kind (Goto word) at s = jump_kind (after_goto s.frame.function word) at s
  stmt_kind (Label word) at s = quiet s
  stmt_kind Empty at s = quiet s
  stmt_kind (Return None) at s = return_kind at s
  stmt_kind (Return (Some e)) at s = give_kind s.frame.function.result (value_of (scope_of tree s) e) at s

  at_kind : (rest : Continuation) (s : State) → Kind s.events (λ input. step_at tree rest (with_input input s))
  at_kind (ends_function at) s = close_kind at s
  at_kind (runs no_lines rest) s = at_kind rest s
  at_kind (runs (line stmt at lines) rest) s = stmt_kind stmt at (goes_on (runs lines rest) s)
  at_kind (tests e body at rest) s =
      on_kind (value_of (scope_of tree s) e) at s (λ input v. test_step v e body at rest (with_input input s)) (λ v. quiet (test_step v e body at rest s))
  at_kind (turns body rest) s = quiet (goes_on (runs body (turns body rest)) s)
  at_kind (ends_switch rest) s = at_kind rest s

  -- a step of a text
  pub text_kind : (s : State) → Kind s.events (λ input. step tree (with_input input s))
  text_kind s =
      either_kind console s.events (λ input. with_input input s) (λ input. step_at tree s.rest (with_input input s)) (is_over s.end) (quiet s) (at_kind s.rest s)
