-- What a statement that stands for one of the graph leaves: what follows, the function that runs, the calls that wait, and the fill.
use Rattle.std.proofs.Common.{◌≡◌, ℕ, Bool, true, false, List, [], ◌∷◌, Option, Some, None, refl, true≢false}
use Rattle.std.specs.Prelude.{option_to_list, map, option_map}
use Rattle.dcc_ir.specs.Run.{is_call}
use Rattle.dcc_ir.specs.Tree as inner
use Rattle.dcc_c.specs.Dos.{Dos, Putc, Getche, Getch, Puts, Leave, dos_of, dos_name, dos_signature}
use Rattle.dcc_c.specs.declared.syntax.CUn.TheVariants.{Deref}
use Rattle.dcc_c.specs.Tree.{Expr, Unary, Assign, Call, Tree}
use Rattle.dcc_c.specs.Value.{Value, Outcome, Gives, Divides, Undefined, Target, ToVariable, ToMemory, value_of, target_of}
use Rattle.dcc_c.specs.Run.{State, on, takes, result_step, key_step, dos_step, dos_or_call_step, result_target, arguments_of, scope_of, stmt_step}
use Rattle.dcc_text.specs.Spelling.{Spelling}
use Rattle.dcc_text.specs.Spelled.{Low, pointer, text, text_division}
use Rattle.dcc_text.specs.Stmts.{place_of, assigned, wanted_way, dos_with, stmt_text}

-- the second state goes on with the same lines, in the same function, with the same calls that wait
pub record Keeps (t u : State) : Type 0 where
  pub rest : u.rest ≡ t.rest
  pub function : u.frame.function ≡ t.frame.function
  pub waiting : u.waiting ≡ t.waiting
  pub fill : u.fill ≡ t.fill

kept : (t : State) → Keeps t t
kept t = record { rest = refl; function = refl; waiting = refl; fill = refl }

on-keeps : {A : Type 0} (o : Outcome A) (at : ℕ) (t : State) (next : A → State) → ((a : A) → Keeps t (next a)) → Keeps t (on o at t next)
on-keeps (Gives a) at t next each = each a
on-keeps Divides at t next each = record { rest = refl; function = refl; waiting = refl; fill = refl }
on-keeps Undefined at t next each = record { rest = refl; function = refl; waiting = refl; fill = refl }

takes-keeps : (target : Target) (v : Value) (t : State) → Keeps t (takes target v t)
takes-keeps (ToVariable word) v t = record { rest = refl; function = refl; waiting = refl; fill = refl }
takes-keeps (ToMemory type at) v t = record { rest = refl; function = refl; waiting = refl; fill = refl }

pub result-keeps : (target : Option Target) (v : Option Value) (at : ℕ) (t u : State) → Keeps t u → Keeps t (result_step target v at u)
result-keeps None v at t u is = is
result-keeps (Some target) None at t u is = record { rest = is.rest; function = is.function; waiting = is.waiting; fill = is.fill }
result-keeps (Some (ToVariable word)) (Some v) at t u is = record { rest = is.rest; function = is.function; waiting = is.waiting; fill = is.fill }
result-keeps (Some (ToMemory type address)) (Some v) at t u is = record { rest = is.rest; function = is.function; waiting = is.waiting; fill = is.fill }

key-keeps : (echo : Bool) (input : List ℕ) (target : Option Target) (at : ℕ) (t : State) → Keeps t (key_step echo input target at t)
key-keeps echo [] target at t = result-keeps target _ at t _ (record { rest = refl; function = refl; waiting = refl; fill = refl })
key-keeps echo (byte ∷ rest) target at t = result-keeps target _ at t _ (record { rest = refl; function = refl; waiting = refl; fill = refl })

pub dos-keeps : (dos : Dos) (target : Option Target) (vs : List Value) (at : ℕ) (t : State) → Keeps t (dos_step dos target vs at t)
dos-keeps Getche target [] at t = key-keeps true t.input target at t
dos-keeps Getch target [] at t = key-keeps false t.input target at t
dos-keeps Putc None (v ∷ []) at t = record { rest = refl; function = refl; waiting = refl; fill = refl }
dos-keeps Puts None (v ∷ []) at t = record { rest = refl; function = refl; waiting = refl; fill = refl }
dos-keeps Leave None (v ∷ []) at t = record { rest = refl; function = refl; waiting = refl; fill = refl }
dos-keeps dos target vs at t = record { rest = refl; function = refl; waiting = refl; fill = refl }

pub assign-keeps : (tree : Tree) (place e : Expr) (at : ℕ) (t : State) → Keeps t (stmt_step tree (Assign place e) at t)
assign-keeps tree place e at t = on-keeps (value_of (scope_of tree t) e) at t _ (λ v. on-keeps (target_of (scope_of tree t) place) at t _ (λ target. takes-keeps target v t))

call-keeps : (tree : Tree) (dos : Dos) (place : Option Expr) (arguments : List Expr) (depth at : ℕ) (t : State) → Keeps t (stmt_step tree (Call place (dos_name dos) arguments depth) at t)
call-keeps tree dos place arguments depth at t =
    on-keeps (result_target (scope_of tree t) place) at t _ (λ target. by dos target)
  where
    by : (dos : Dos) (target : Option Target) → Keeps t (dos_or_call_step tree (dos_of (dos_name dos)) (dos_name dos) target arguments depth at t)
    by Putc target = on-keeps (arguments_of (scope_of tree t) (dos_signature Putc).params arguments) at t _ (λ vs. dos-keeps Putc target vs at t)
    by Getche target = on-keeps (arguments_of (scope_of tree t) (dos_signature Getche).params arguments) at t _ (λ vs. dos-keeps Getche target vs at t)
    by Getch target = on-keeps (arguments_of (scope_of tree t) (dos_signature Getch).params arguments) at t _ (λ vs. dos-keeps Getch target vs at t)
    by Puts target = on-keeps (arguments_of (scope_of tree t) (dos_signature Puts).params arguments) at t _ (λ vs. dos-keeps Puts target vs at t)
    by Leave target = on-keeps (arguments_of (scope_of tree t) (dos_signature Leave).params arguments) at t _ (λ vs. dos-keeps Leave target vs at t)

pub text-keeps : (s : Spelling) (tree : Tree) (stmt : inner.Stmt) (at : ℕ) (t : State) → is_call stmt ≡ false → Keeps t (stmt_step tree (stmt_text s 2 stmt) at t)
text-keeps s tree (inner.Set location e) at t none = assign-keeps tree (place_of s location) (assigned s location (text s (wanted_way s location) false e)) at t
text-keeps s tree (inner.Fetch location width address) at t none = assign-keeps tree (place_of s location) (assigned s location (text s (wanted_way s location) false (inner.Load width address))) at t
text-keeps s tree (inner.Store width address e) at t none = assign-keeps tree (Unary Deref (pointer s width address (text s Low false address))) (text s Low false e) at t
text-keeps s tree (inner.Div location e) at t none = assign-keeps tree (place_of s location) (assigned s location (text_division s e)) at t
text-keeps s tree (inner.Call results entry arguments own) at t none = absurd (true≢false none)
text-keeps s tree (inner.Dos number place argument) at t none = call-keeps tree (dos_with number) (option_map (place_of s) place) (map (text s Low false) (option_to_list argument)) 2 at t
