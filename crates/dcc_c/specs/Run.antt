-- The run of a text: its state, one step, and the run from the start (ISO/IEC 9899:1990, 6.6).
use Rattle.std.specs.Prelude.{ℕ, ◌+◌, ◌%◌, Bool, true, false, ◌&&◌, ◌||◌, nat_le, nat_lt, ◌==◌, if◌then◌else◌, List, []}
use Rattle.std.specs.Prelude.{◌∷◌, ◌++◌, map, codes, Option, Some, None, is_some}
use Rattle.std.specs.List.{range_with_len, list_any}
use Rattle.dcc_run.specs.End.{End, Running, Exit, Divide, Stuck, is_over}
use Rattle.dcc_run.specs.Event.{Event, Took, MetEnd, writes}
use Rattle.dcc_run.specs.System.{System}
use Rattle.dcc_c.specs.declared.syntax.Base.TheVariants.{Uchar, Int, Uint}
use Rattle.dcc_c.specs.declared.syntax.CType.{CType}
use Rattle.dcc_c.specs.Token.{same_bytes}
use Rattle.dcc_c.specs.Types.{plain, size_of}
use Rattle.dcc_c.specs.Memory.{store}
use Rattle.dcc_c.specs.Tree.{Word, Expr, Stmt, Assign, Call, If, While, DoWhile, Forever, Switch, Break, Continue, Goto}
use Rattle.dcc_c.specs.Tree.{Label, Empty, Return, Lines, no_lines, line, Arms, no_arms, arm, Global, Variable}
use Rattle.dcc_c.specs.Tree.{Function, Tree}
use Rattle.dcc_c.specs.Value.{Value, number, is_zero, converted, Outcome, Gives, Divides, Undefined, and_then, given}
use Rattle.dcc_c.specs.Value.{Storage, Unplaced, PlacedAt, Binding, after_assignment, Scope, value_of, Target}
use Rattle.dcc_c.specs.Value.{ToVariable, ToMemory, target_of}
use Rattle.dcc_c.specs.Placement.{first_base, below, params_of_call, locals_of_call}
use Rattle.dcc_c.specs.Dos.{Dos, Putc, Getche, Getch, Puts, Leave, dos_of, dos_signature, string_at}

-- What is still to be executed in a call.
pub data Continuation : Type 0 where
  -- the closing brace of the function, in this line
  ends_function : ℕ → Continuation
  -- statements, and what follows them
  runs : Lines → Continuation → Continuation
  -- the test of a `while` or a `do` in this line, again and again, with its body
  tests : Expr → Lines → ℕ → Continuation → Continuation
  -- a turn of a `for`, again and again
  turns : Lines → Continuation → Continuation
  -- the end of a `switch`
  ends_switch : Continuation → Continuation

-- a call: its function, its base, and its parameters and local variables
pub record Frame : Type 0 where
  pub function : Function
  pub base : ℕ
  pub variables : List Binding

-- a call that waits for another one to return: what it goes on with then, and where it wants the result
pub record Waiting : Type 0 where
  pub frame : Frame
  pub rest : Continuation
  pub target : Option Target

-- a state of the run
pub record State : Type 0 where
  pub rest : Continuation
  -- the call that runs, and those that wait, the newest first
  pub frame : Frame
  pub waiting : List Waiting
  -- what variables without a value hold
  pub fill : ℕ
  -- the memory, of 65,536 bytes
  pub memory : List ℕ
  -- the input bytes that are not yet read, and what has happened at the console, the oldest first
  pub input : List ℕ
  pub events : List Event
  pub end : End

abbrev pub with_end : End → State → State
with_end end s = record s { end = end }

abbrev pub goes_on : Continuation → State → State
goes_on rest s = record s { rest = rest }

-- The step goes on with what an evaluation gives. An evaluation in which a division faults ends the run, and so does
-- one that has no meaning, in this line.
abbrev pub on : {A : Type 0} → Outcome A → ℕ → State → (A → State) → State
on (Gives a) at s next = next a
on Divides at s next = with_end Divide s
on Undefined at s next = with_end (Stuck at) s

-- Variables.

-- a global variable
abbrev pub global_binding : Global → Binding
global_binding g = record { name = g.name; type = g.type; is_array = is_some g.len; storage = PlacedAt g.at }

-- the scope of expressions: the call's variables, the global ones, and the memory
abbrev pub scope_of : Tree → State → Scope
scope_of tree s =
    record { variables = s.frame.variables ++ map global_binding tree.globals; memory = s.memory }

-- where a variable is stored: at its address, if it is placed, or by itself with its bits
abbrev pub storage_of : Option ℕ → ℕ → Storage
storage_of (Some at) bits = PlacedAt at
storage_of None bits = Unplaced bits

abbrev pub variable_binding : Variable → Option ℕ → ℕ → Binding
variable_binding v place bits =
    record { name = v.name; type = v.type; is_array = is_some v.len; storage = storage_of place bits }

-- a variable before it has a value: the fill, cut or sign-extended to its type
abbrev pub first_binding : ℕ → Variable → Option ℕ → Binding
first_binding fill v place = variable_binding v place (converted v.type (number Int fill)).bits

abbrev pub local_bindings : ℕ → List Variable → List (Option ℕ) → List Binding
local_bindings fill (v ∷ locals) (place ∷ places) = first_binding fill v place ∷ local_bindings fill locals places
local_bindings fill _ _ = []

-- a parameter has the value of its argument
abbrev pub param_bindings : List Variable → List (Option ℕ) → List Value → List Binding
param_bindings (v ∷ params) (place ∷ places) (argument ∷ arguments) =
    variable_binding v place argument.bits ∷ param_bindings params places arguments
param_bindings _ _ _ = []

-- a call of the function with these arguments
abbrev pub frame_of : Function → ℕ → ℕ → List Value → Frame
frame_of function base fill arguments = record {
  function = function;
  base = base;
  variables = param_bindings function.params (params_of_call function base) arguments
      ++ local_bindings fill function.locals (locals_of_call function base);
}

-- the memory after the placed arguments are written, in their order
abbrev pub with_arguments : List (Option ℕ) → List Value → List ℕ → List ℕ
with_arguments (Some at ∷ places) (argument ∷ arguments) memory =
    with_arguments places arguments (store (size_of argument.type) memory at argument.bits)
with_arguments (None ∷ places) (argument ∷ arguments) memory = with_arguments places arguments memory
with_arguments _ _ memory = memory

-- the target takes the value, converted to its type
abbrev pub takes : Target → Value → State → State
takes (ToVariable word) v s =
    record s { frame = record s.frame { variables = after_assignment s.frame.variables word v } }
takes (ToMemory type at) v s = record s { memory = store (size_of type) s.memory at (converted type v).bits }

-- Jumps.

-- what follows the innermost loop or `switch`
abbrev pub after_break : Continuation → Option Continuation
after_break (ends_function at) = None
after_break (runs lines rest) = after_break rest
after_break (tests e body at rest) = Some rest
after_break (turns body rest) = Some rest
after_break (ends_switch rest) = Some rest

-- the next test or turn of the innermost loop
abbrev pub after_continue : Continuation → Option Continuation
after_continue (ends_function at) = None
after_continue (runs lines rest) = after_continue rest
after_continue (tests e body at rest) = Some (tests e body at rest)
after_continue (turns body rest) = Some (turns body rest)
after_continue (ends_switch rest) = after_continue rest

abbrev pub first_of : Option Continuation → Option Continuation → Option Continuation
first_of (Some rest) other = Some rest
first_of None other = other

abbrev mutual
  -- what is to be executed from a label on, in the statements and what follows them
  pub from_label : Word → Lines → Continuation → Option Continuation
  from_label word no_lines rest = None
  from_label word (line stmt at lines) rest =
      first_of (from_label_inside word stmt at lines rest) (from_label word lines rest)

  -- what is to be executed from a label on that the statement is, or that stands inside it
  pub from_label_inside : Word → Stmt → ℕ → Lines → Continuation → Option Continuation
  from_label_inside word (Label other) at lines rest =
      if same_bytes word other then Some (runs (line (Label other) at lines) rest) else None
  from_label_inside word (If e body otherwise) at lines rest =
      first_of (from_label word body (runs lines rest)) (from_label word otherwise (runs lines rest))
  from_label_inside word (While e body) at lines rest = from_label word body (tests e body at (runs lines rest))
  from_label_inside word (DoWhile body e) at lines rest = from_label word body (tests e body at (runs lines rest))
  from_label_inside word (Forever body) at lines rest = from_label word body (turns body (runs lines rest))
  from_label_inside word (Switch e arms last) at lines rest =
      first_of (from_label_in_arms word arms (ends_switch (runs lines rest)))
      (from_label_in_arms word last (ends_switch (runs lines rest)))
  from_label_inside word _ at lines rest = None

  -- what is to be executed from a label on in the arms
  pub from_label_in_arms : Word → Arms → Continuation → Option Continuation
  from_label_in_arms word no_arms rest = None
  from_label_in_arms word (arm cases body arms) rest =
      first_of (from_label word body rest) (from_label_in_arms word arms rest)

-- what is to be executed from a label of the function on
abbrev pub after_goto : Function → Word → Option Continuation
after_goto function word = from_label word function.body (ends_function function.last)

-- the body of the arm with this case, or else of the default arm
abbrev pub arm_for : ℕ → Arms → Lines → Lines
arm_for n no_arms otherwise = otherwise
arm_for n (arm cases body arms) otherwise =
    if list_any (λ c. c == n) cases then body else arm_for n arms otherwise

abbrev pub default_body : Arms → Lines
default_body no_arms = no_lines
default_body (arm cases body arms) = body

-- Statements.

-- the test of an `if`
abbrev pub if_step : Value → Lines → Lines → State → State
if_step v body otherwise s = goes_on (runs (if is_zero v then otherwise else body) s.rest) s

-- the test of a `while` or a `do`
abbrev pub test_step : Value → Expr → Lines → ℕ → Continuation → State → State
test_step v e body at rest s = goes_on (if is_zero v then rest else runs body (tests e body at rest)) s

-- the test of a `switch`, by the value modulo 65536
abbrev pub switch_step : Value → Arms → Arms → State → State
switch_step v arms last s =
    goes_on (runs (arm_for (converted (plain Uint) v).bits arms (default_body last)) (ends_switch s.rest)) s

-- a jump, which has a place to go to
abbrev pub jump_step : Option Continuation → ℕ → State → State
jump_step to at s = on (given to) at s (λ rest. goes_on rest s)

-- Calls.

-- the waiting call takes the result, where it wants one
abbrev pub result_step : Option Target → Option Value → ℕ → State → State
result_step None v at s = s
result_step (Some target) (Some v) at s = takes target v s
result_step (Some target) None at s = with_end (Stuck at) s

-- the newest of the waiting calls goes on
abbrev pub back_step : List Waiting → Option Value → ℕ → State → State
back_step [] v at s = with_end (Stuck at) s
back_step (w ∷ waiting) v at s =
    result_step w.target v at (record s { rest = w.rest; frame = w.frame; waiting = waiting })

abbrev pub is_start : Function → Bool
is_start function = same_bytes function.name (codes "start")

-- a step at the closing brace: neither `start` nor a function with a result has one there
abbrev pub close_step : ℕ → State → State
close_step at s =
    if is_start s.frame.function || is_some s.frame.function.result then with_end (Stuck at) s
    else back_step s.waiting None at s

-- a `return` without a value
abbrev pub return_step : ℕ → State → State
return_step at s = if is_start s.frame.function then with_end (Stuck at) s else back_step s.waiting None at s

-- a `return` with a value, which becomes one of the function's result
abbrev pub give_step : Option CType → Outcome Value → ℕ → State → State
give_step None v at s = with_end (Stuck at) s
give_step (Some type) v at s =
    if is_start s.frame.function then with_end (Stuck at) s
    else on v at s (λ v. back_step s.waiting (Some (converted type v)) at s)

-- the state after these events at the console
abbrev pub with_events : List Event → State → State
with_events events s = record s { events = s.events ++ events }

-- The target takes the next input byte, which is written after that where it is echoed. Where there is none, the run
-- meets the end of the input, and the target takes 1Ah.
abbrev pub key_step : Bool → List ℕ → Option Target → ℕ → State → State
key_step echo [] target at s =
    result_step target (Some (number Uchar 0x1A)) at (with_events (MetEnd ∷ []) s)
key_step echo (byte ∷ rest) target at s =
    result_step target (Some (number Uchar byte)) at
    (with_events (Took byte ∷ writes (if echo then byte ∷ [] else [])) (record s { input = rest }))

-- a DOS call, whole
abbrev pub dos_step : Dos → Option Target → List Value → ℕ → State → State
dos_step Putc None (v ∷ []) at s = with_events (writes (v.bits ∷ [])) s
dos_step Puts None (v ∷ []) at s = with_events (writes (string_at s.memory v.bits)) s
dos_step Leave None (v ∷ []) at s = with_end (Exit v.bits) s
dos_step Getche target [] at s = key_step true s.input target at s
dos_step Getch target [] at s = key_step false s.input target at s
dos_step _ target arguments at s = with_end (Stuck at) s

-- the values of arguments, from left to right, each converted to the type of its parameter
abbrev pub arguments_of : Scope → List CType → List Expr → Outcome (List Value)
arguments_of scope [] [] = Gives []
arguments_of scope (type ∷ types) (e ∷ es) =
    and_then (λ v. and_then (λ vs. Gives (converted type v ∷ vs)) (arguments_of scope types es)) (value_of scope e)
arguments_of scope _ _ = Undefined

-- the place of a result, where the call has one
abbrev pub result_target : Scope → Option Expr → Outcome (Option Target)
result_target scope None = Gives None
result_target scope (Some place) = and_then (λ target. Gives (Some target)) (target_of scope place)

-- the function's body begins, and its caller waits
abbrev pub enter_step : Function → ℕ → Option Target → List Value → State → State
enter_step function depth target arguments s =
    let base = below s.frame.base depth in
    record s {
      rest = runs function.body (ends_function function.last);
      frame = frame_of function base s.fill arguments;
      waiting = record { frame = s.frame; rest = s.rest; target = target } ∷ s.waiting;
      memory = with_arguments (params_of_call function base) arguments s.memory;
    }

abbrev pub function_in : List Function → Word → Option Function
function_in [] word = None
function_in (f ∷ functions) word = if same_bytes f.name word then Some f else function_in functions word

abbrev pub param_types : Function → List CType
param_types function = map (λ v. v.type) function.params

-- a call of one of the text's functions
abbrev pub call_step : Option Function → Scope → Option Target → List Expr → ℕ → ℕ → State → State
call_step None scope target arguments depth at s = with_end (Stuck at) s
call_step (Some function) scope target arguments depth at s =
    on (arguments_of scope (param_types function) arguments) at s (λ vs. enter_step function depth target vs s)

-- a call of a DOS function or of one of the text's
abbrev pub dos_or_call_step : Tree → Option Dos → Word → Option Target → List Expr → ℕ → ℕ → State → State
dos_or_call_step tree (Some dos) word target arguments depth at s =
    on (arguments_of (scope_of tree s) (dos_signature dos).params arguments) at s (λ vs. dos_step dos target vs at s)
dos_or_call_step tree None word target arguments depth at s =
    call_step (function_in tree.functions word) (scope_of tree s) target arguments depth at s

-- One statement, in this line. In an assignment the right side is evaluated before the place, and in a call the place
-- before the arguments.
abbrev pub stmt_step : Tree → Stmt → ℕ → State → State
stmt_step tree (Assign place e) at s =
    on (value_of (scope_of tree s) e) at s
    (λ v. on (target_of (scope_of tree s) place) at s (λ target. takes target v s))
stmt_step tree (Call place function arguments depth) at s =
    on (result_target (scope_of tree s) place) at s
    (λ target. dos_or_call_step tree (dos_of function) function target arguments depth at s)
stmt_step tree (If e body otherwise) at s = on (value_of (scope_of tree s) e) at s (λ v. if_step v body otherwise s)
stmt_step tree (While e body) at s = on (value_of (scope_of tree s) e) at s (λ v. test_step v e body at s.rest s)
stmt_step tree (DoWhile body e) at s = goes_on (runs body (tests e body at s.rest)) s
stmt_step tree (Forever body) at s = goes_on (runs body (turns body s.rest)) s
stmt_step tree (Switch e arms last) at s = on (value_of (scope_of tree s) e) at s (λ v. switch_step v arms last s)
stmt_step tree Break at s = jump_step (after_break s.rest) at s
stmt_step tree Continue at s = jump_step (after_continue s.rest) at s
stmt_step tree (Goto word) at s = jump_step (after_goto s.frame.function word) at s
stmt_step tree (Label word) at s = s
stmt_step tree Empty at s = s
stmt_step tree (Return None) at s = return_step at s
stmt_step tree (Return (Some e)) at s = give_step s.frame.function.result (value_of (scope_of tree s) e) at s

-- One step: the next statement, the next test or turn of a loop, or the closing brace. The end of a list of
-- statements and that of a `switch` are no steps of their own.
abbrev pub step_at : Tree → Continuation → State → State
step_at tree (ends_function at) s = close_step at s
step_at tree (runs no_lines rest) s = step_at tree rest s
step_at tree (runs (line stmt at lines) rest) s = stmt_step tree stmt at (goes_on (runs lines rest) s)
step_at tree (tests e body at rest) s = on (value_of (scope_of tree s) e) at s (λ v. test_step v e body at rest s)
step_at tree (turns body rest) s = goes_on (runs body (turns body rest)) s
step_at tree (ends_switch rest) s = step_at tree rest s

-- a state that has ended stays
abbrev pub step : Tree → State → State
step tree s = if is_over s.end then s else step_at tree s.rest s

-- The start.

-- the byte at an address of the stack holds the low byte of the fill, every other byte is 0
abbrev pub stack_byte : ℕ → ℕ → ℕ → ℕ → ℕ
stack_byte lo hi fill at = if nat_le lo at && nat_lt at hi then fill % 256 else 0

unfoldable pub stack_memory : ℕ → ℕ → ℕ → List ℕ
stack_memory lo hi fill = map (stack_byte lo hi fill) (range_with_len 0 65536)

-- initial values from an address on
abbrev pub with_values : CType → ℕ → List ℕ → List ℕ → List ℕ
with_values type at [] memory = memory
with_values type at (n ∷ values) memory =
    with_values type (at + size_of type) values (store (size_of type) memory at n)

abbrev pub with_globals : List Global → List ℕ → List ℕ
with_globals [] memory = memory
with_globals (g ∷ globals) memory = with_globals globals (with_values g.type g.at g.init memory)

-- the bytes at the start: the initial values of global variables, and those of the stack
abbrev pub first_memory : Tree → ℕ → List ℕ
first_memory tree fill = with_globals tree.globals (stack_memory tree.lo tree.hi fill)

-- the state at the start of a text whose first function is this one
abbrev pub first_state : Tree → Function → ℕ → List ℕ → State
first_state tree start fill input = record {
  rest = runs start.body (ends_function start.last);
  frame = frame_of start (first_base tree.hi) fill [];
  waiting = [];
  fill = fill;
  memory = first_memory tree fill;
  input = input;
  events = [];
  end = Running;
}

-- the runs of a text
abbrev pub text_system : Tree → System State
text_system tree = record { step = step tree; events = λ s. s.events; end = λ s. s.end }
