-- Laws of the runs of texts.
use Rattle.std.proofs.Common.{ℕ, Bool, true, false, List, [], ◌∷◌, Option, Some, None, ap}
use Rattle.std.specs.Prelude.{◌||◌, if◌then◌else◌, is_some}
use Rattle.dcc_run.specs.End.{Stuck, is_over}
use Rattle.dcc_run.specs.Event.{Took, MetEnd, writes}
use Rattle.dcc_run.specs.Prefix.{IsPrefix}
use Rattle.dcc_run.specs.System.{IsLawful}
use Rattle.dcc_run.proofs.PrefixLaws.{prefix_refl, prefix_append, prefix_trans}
use Rattle.dcc_c.specs.declared.syntax.CType.{CType}
use Rattle.dcc_c.specs.Tree.{Word, Expr, Stmt, Assign, Call, If, While, DoWhile, Forever, Switch, Break, Continue, Goto, Label, Empty, Return, no_lines, line, Function, Tree}
use Rattle.dcc_c.specs.Value.{Value, converted, Outcome, Gives, Divides, Undefined, given, Scope, value_of, Target, ToVariable, ToMemory, target_of}
use Rattle.dcc_c.specs.Dos.{Dos, Putc, Getche, Getch, Puts, Leave, dos_of, dos_signature, string_at}
use Rattle.dcc_c.specs.Run.{Continuation, ends_function, runs, tests, turns, ends_switch, State, Waiting, with_end, goes_on, on, scope_of, takes, after_break, after_continue, after_goto, jump_step, result_step, back_step, is_start, close_step, return_step, give_step, with_events, key_step, dos_step, arguments_of, result_target, function_in, param_types, call_step, dos_or_call_step, stmt_step, step_at, text_system}

-- a step that goes on with what an evaluation gives takes no event back where the rest does not
on-grows : {A : Type 0} (o : Outcome A) (at : ℕ) (s : State) (next : A → State) →
    ((a : A) → IsPrefix s.events (next a).events) → IsPrefix s.events (on o at s next).events
on-grows (Gives a) at s next grows = grows a
on-grows Divides at s next grows = prefix_refl s.events
on-grows Undefined at s next grows = prefix_refl s.events

takes-grows : (target : Target) (v : Value) (s : State) → IsPrefix s.events (takes target v s).events
takes-grows (ToVariable word) v s = prefix_refl s.events
takes-grows (ToMemory type at) v s = prefix_refl s.events

result-grows : (target : Option Target) (v : Option Value) (at : ℕ) (s : State) → IsPrefix s.events (result_step target v at s).events
result-grows None v at s = prefix_refl s.events
result-grows (Some target) (Some v) at s = takes-grows target v s
result-grows (Some target) None at s = prefix_refl s.events

back-grows : (waiting : List Waiting) (v : Option Value) (at : ℕ) (s : State) → IsPrefix s.events (back_step waiting v at s).events
back-grows [] v at s = prefix_refl s.events
back-grows (w ∷ waiting) v at s =
    result-grows w.target v at (record s { rest = w.rest; frame = w.frame; waiting = waiting })

-- one of two states that take no event back
either-grows : (b : Bool) (s t u : State) → IsPrefix s.events t.events → IsPrefix s.events u.events → IsPrefix s.events (if b then t else u).events
either-grows true s t u first second = first
either-grows false s t u first second = second

close-grows : (at : ℕ) (s : State) → IsPrefix s.events (close_step at s).events
close-grows at s =
    either-grows (is_start s.frame.function || is_some s.frame.function.result) s (with_end (Stuck at) s) (back_step s.waiting None at s) (prefix_refl s.events) (back-grows s.waiting None at s)

return-grows : (at : ℕ) (s : State) → IsPrefix s.events (return_step at s).events
return-grows at s =
    either-grows (is_start s.frame.function) s (with_end (Stuck at) s) (back_step s.waiting None at s) (prefix_refl s.events) (back-grows s.waiting None at s)

give-grows : (type : Option CType) (v : Outcome Value) (at : ℕ) (s : State) → IsPrefix s.events (give_step type v at s).events
give-grows None v at s = prefix_refl s.events
give-grows (Some type) v at s =
    either-grows (is_start s.frame.function) s (with_end (Stuck at) s) (on v at s (λ v. back_step s.waiting (Some (converted type v)) at s))
    (prefix_refl s.events) (on-grows v at s _ (λ v. back-grows s.waiting (Some (converted type v)) at s))

key-grows : (echo : Bool) (input : List ℕ) (target : Option Target) (at : ℕ) (s : State) → IsPrefix s.events (key_step echo input target at s).events
key-grows echo [] target at s =
    prefix_trans (prefix_append s.events (MetEnd ∷ [])) (result-grows target _ at (with_events (MetEnd ∷ []) s))
key-grows echo (byte ∷ rest) target at s =
    let events = Took byte ∷ writes (if echo then byte ∷ [] else []) in
    prefix_trans (prefix_append s.events events) (result-grows target _ at (with_events events (record s { input = rest })))

dos-grows : (dos : Dos) (target : Option Target) (arguments : List Value) (at : ℕ) (s : State) → IsPrefix s.events (dos_step dos target arguments at s).events
dos-grows Putc None (v ∷ []) at s = prefix_append s.events (writes (v.bits ∷ []))
dos-grows Puts None (v ∷ []) at s = prefix_append s.events (writes (string_at s.memory v.bits))
dos-grows Getche target [] at s = key-grows true s.input target at s
dos-grows Getch target [] at s = key-grows false s.input target at s
dos-grows Leave None (v ∷ []) at s = prefix_refl s.events
dos-grows _ target arguments at s = prefix_refl s.events

call-grows : (function : Option Function) (scope : Scope) (target : Option Target) (arguments : List Expr) (depth at : ℕ) (s : State) → IsPrefix s.events (call_step function scope target arguments depth at s).events
call-grows None scope target arguments depth at s = prefix_refl s.events
call-grows (Some function) scope target arguments depth at s =
    on-grows (arguments_of scope (param_types function) arguments) at s _ (λ vs. prefix_refl s.events)

dos_or_call-grows : (tree : Tree) (dos : Option Dos) (word : Word) (target : Option Target) (arguments : List Expr) (depth at : ℕ) (s : State) →
    IsPrefix s.events (dos_or_call_step tree dos word target arguments depth at s).events
dos_or_call-grows tree (Some dos) word target arguments depth at s =
    on-grows (arguments_of (scope_of tree s) (dos_signature dos).params arguments) at s _ (λ vs. dos-grows dos target vs at s)
dos_or_call-grows tree None word target arguments depth at s =
    call-grows (function_in tree.functions word) (scope_of tree s) target arguments depth at s

jump-grows : (to : Option Continuation) (at : ℕ) (s : State) → IsPrefix s.events (jump_step to at s).events
jump-grows to at s = on-grows (given to) at s _ (λ rest. prefix_refl s.events)

stmt-grows : (tree : Tree) (stmt : Stmt) (at : ℕ) (s : State) → IsPrefix s.events (stmt_step tree stmt at s).events
stmt-grows tree (Assign place e) at s =
    on-grows (value_of (scope_of tree s) e) at s _ (λ v. on-grows (target_of (scope_of tree s) place) at s _ (λ target. takes-grows target v s))
stmt-grows tree (Call place function arguments depth) at s =
    on-grows (result_target (scope_of tree s) place) at s _ (λ target. dos_or_call-grows tree (dos_of function) function target arguments depth at s)
stmt-grows tree (If e body otherwise) at s = on-grows (value_of (scope_of tree s) e) at s _ (λ v. prefix_refl s.events)
stmt-grows tree (While e body) at s = on-grows (value_of (scope_of tree s) e) at s _ (λ v. prefix_refl s.events)
stmt-grows tree (DoWhile body e) at s = prefix_refl s.events
stmt-grows tree (Forever body) at s = prefix_refl s.events
stmt-grows tree (Switch e arms last) at s = on-grows (value_of (scope_of tree s) e) at s _ (λ v. prefix_refl s.events)
stmt-grows tree Break at s = jump-grows (after_break s.rest) at s
stmt-grows tree Continue at s = jump-grows (after_continue s.rest) at s
stmt-grows tree (Goto word) at s = jump-grows (after_goto s.frame.function word) at s
stmt-grows tree (Label word) at s = prefix_refl s.events
stmt-grows tree Empty at s = prefix_refl s.events
stmt-grows tree (Return None) at s = return-grows at s
stmt-grows tree (Return (Some e)) at s = give-grows s.frame.function.result (value_of (scope_of tree s) e) at s

at-grows : (tree : Tree) (rest : Continuation) (s : State) → IsPrefix s.events (step_at tree rest s).events
at-grows tree (ends_function at) s = close-grows at s
at-grows tree (runs no_lines rest) s = at-grows tree rest s
at-grows tree (runs (line stmt at lines) rest) s = stmt-grows tree stmt at (goes_on (runs lines rest) s)
at-grows tree (tests e body at rest) s = on-grows (value_of (scope_of tree s) e) at s _ (λ v. prefix_refl s.events)
at-grows tree (turns body rest) s = prefix_refl s.events
at-grows tree (ends_switch rest) s = at-grows tree rest s

-- a state that has ended stays, and no step takes events back
pub text_lawful : (tree : Tree) → IsLawful (text_system tree)
text_lawful tree = record {
  stays = λ s over. ap (λ b. if b then s else step_at tree s.rest s) over;
  grows = λ s. either-grows (is_over s.end) s s (step_at tree s.rest s) (prefix_refl s.events) (at-grows tree s.rest s);
}
