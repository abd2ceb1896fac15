-- Small expressions and texts, evaluated, run and written by their definitions.
use Rattle.std.proofs.Common.{◌≡◌, ℕ, List, [], ◌∷◌, ◌++◌, Some, None, refl}
use Rattle.std.specs.Prelude.{codes, replicate}
use Rattle.dcc_run.specs.End.{Running, Exit, Stuck}
use Rattle.dcc_run.specs.Event.{Wrote, Took, MetEnd, writes}
use Rattle.dcc_run.specs.System.{after}
use Rattle.dcc_c.specs.declared.syntax.Base.TheVariants.{Schar, Uchar, Int, Uint, Long, Ulong}
use Rattle.dcc_c.specs.declared.syntax.CUn.TheVariants.{Minus, Deref, AddressOf}
use Rattle.dcc_c.specs.declared.syntax.CBin.TheVariants.{OrOr, AndAnd, Lt, Shl, Shr, Add, Sub, Mul, Div, Rem}
use Rattle.dcc_c.specs.declared.syntax.Class.TheVariants.{Plain}
use Rattle.dcc_c.specs.Types.{plain, pointer_to}
use Rattle.dcc_c.specs.Tree.{Word, Expr, Number, Name, Unary, Binary, Conditional, Cast, Stmt, Assign, Call, If, While, DoWhile, Forever, Switch, Break, Continue, Goto, Label, Return, Lines, no_lines, line, no_arms, arm, Variable, Function, Tree}
use Rattle.dcc_c.specs.Value.{Value, number, Outcome, Gives, Divides, value_of}
use Rattle.dcc_c.specs.Run.{State, frame_of, ends_function, runs, step}
use Rattle.dcc_c.specs.Written.{written_lines}

-- Values.

abbrev valued : Expr → Outcome Value
valued e = value_of (record { variables = []; memory = [] }) e

abbrev int : ℕ → Expr
int n = Number n Int

abbrev minus : ℕ → Expr
minus n = Unary Minus (int n)

quotient-is_cut : valued (Binary Div (minus 7) (int 2)) ≡ Gives (number Int 65533)
quotient-is_cut = refl

remainder-has_sign : valued (Binary Rem (minus 7) (int 2)) ≡ Gives (number Int 65535)
remainder-has_sign = refl

zero-divides : valued (Binary Rem (int 1) (int 0)) ≡ Divides
zero-divides = refl

least-divides : valued (Binary Div (Cast (plain Int) (Number 32768 Uint)) (minus 1)) ≡ Divides
least-divides = refl

sign-is_shifted : valued (Binary Shr (minus 8) (int 1)) ≡ Gives (number Int 65532)
sign-is_shifted = refl

count-negative : valued (Binary Shr (minus 1) (minus 1)) ≡ Gives (number Int 65535)
count-negative = refl

count-too_great : valued (Binary Shl (int 1) (int 16)) ≡ Gives (number Int 0)
count-too_great = refl

and-is_short : valued (Binary AndAnd (int 0) (Binary Div (int 1) (int 0))) ≡ Gives (number Int 0)
and-is_short = refl

or-is_short : valued (Binary OrOr (int 5) (Binary Div (int 1) (int 0))) ≡ Gives (number Int 1)
or-is_short = refl

arms-have_one_type : valued (Conditional (int 1) (minus 1) (Number 2 Long)) ≡ Gives (number Long 4294967295)
arms-have_one_type = refl

cast-extends : valued (Cast (plain Ulong) (Cast (plain Schar) (int 200))) ≡ Gives (number Ulong 4294967240)
cast-extends = refl

common-is_unsigned : valued (Binary Lt (minus 1) (Number 1 Uint)) ≡ Gives (number Int 0)
common-is_unsigned = refl

-- Runs.

abbrev lines : List Stmt → Lines
lines [] = no_lines
lines (stmt ∷ stmts) = line stmt 7 (lines stmts)

abbrev single : Word → Variable
single name = record { name = name; type = plain Uint; len = None; class = Plain }

abbrev start_of : List Variable → List Stmt → Function
start_of locals body =
    record { name = codes "start"; result = None; params = []; locals = locals; body = lines body; last = 9 }

abbrev text_of : Function → List Function → Tree
text_of start others = record { version = 1; lo = 0; hi = 30; globals = []; functions = start ∷ others }

-- a memory of 64 bytes is enough here
abbrev begins : Function → List ℕ → State
begins start input = record {
  rest = runs start.body (ends_function start.last);
  frame = frame_of start 32 0 [];
  waiting = [];
  fill = 0;
  memory = replicate 64 0;
  input = input;
  events = [];
  end = Running;
}

abbrev loop : Function
loop = start_of (single (codes "v") ∷ [])
    (Assign (Name (codes "v")) (int 3)
    ∷ DoWhile (lines (Call None (codes "dos_putc") (Binary Add (int 64) (Name (codes "v")) ∷ []) 2
    ∷ Assign (Name (codes "v")) (Binary Sub (Name (codes "v")) (int 1)) ∷ [])) (Name (codes "v"))
    ∷ Call None (codes "dos_exit") (Name (codes "v") ∷ []) 2 ∷ [])

-- an assignment, the entry, three turns of two statements and a test, and the call
loop-before : (after (step (text_of loop [])) 11 (begins loop [])).end ≡ Running
loop-before = refl

loop-ends : (after (step (text_of loop [])) 12 (begins loop [])).end ≡ Exit 0
loop-ends = refl

loop-events : (after (step (text_of loop [])) 12 (begins loop [])).events ≡ writes (codes "CBA")
loop-events = refl

-- f(p) { *&p = p * 5U; return p; }, where p is placed
abbrev five : Function
five = record {
  name = codes "f";
  result = Some (plain Uchar);
  params = single (codes "p") ∷ [];
  locals = [];
  body = lines (Assign (Unary Deref (Unary AddressOf (Name (codes "p")))) (Binary Mul (Name (codes "p")) (int 5))
      ∷ Return (Some (Name (codes "p"))) ∷ []);
  last = 9;
}

abbrev calls : Function
calls = start_of (single (codes "v") ∷ [])
    (Call (Some (Name (codes "v"))) (codes "f") (int 13 ∷ []) 8
    ∷ Call None (codes "dos_putc") (Name (codes "v") ∷ []) 2 ∷ [])

call-events : (after (step (text_of calls (five ∷ []))) 4 (begins calls [])).events ≡ writes (codes "A")
call-events = refl

-- the argument stands at the callee's base, 8 below the caller's
call-memory : (after (step (text_of calls (five ∷ []))) 2 (begins calls [])).memory
    ≡ replicate 24 0 ++ 65 ∷ replicate 39 0
call-memory = refl

-- the closing brace of `start` is a step that is stuck
call-stuck : (after (step (text_of calls (five ∷ []))) 5 (begins calls [])).end ≡ Stuck 9
call-stuck = refl

-- again: v = dos_getche(); switch (v) { case 66: dos_putc(49); break; default: dos_exit(7); break; } goto again;
abbrev keys : Function
keys = start_of (single (codes "v") ∷ [])
    (Label (codes "again")
    ∷ Call (Some (Name (codes "v"))) (codes "dos_getche") [] 2
    ∷ Switch (Name (codes "v")) (arm (66 ∷ []) (lines (Call None (codes "dos_putc") (int 49 ∷ []) 2 ∷ [])) no_arms)
    (arm [] (lines (Call None (codes "dos_exit") (int 7 ∷ []) 2 ∷ [])) no_arms)
    ∷ Goto (codes "again") ∷ [])

keys-end : (after (step (text_of keys [])) 9 (begins keys (66 ∷ []))).end ≡ Exit 7
keys-end = refl

-- a key is taken, then echoed; the answer to it is written; and the second key meets the end of the input
keys-events : (after (step (text_of keys [])) 9 (begins keys (66 ∷ []))).events
    ≡ Took 66 ∷ Wrote 66 ∷ Wrote 49 ∷ MetEnd ∷ []
keys-events = refl

-- for (;;) { for (;;) { break; } while (1) { v = v + 1U; if (v < 3) { continue; } break; } dos_exit(v); }
abbrev nested : Function
nested = start_of (single (codes "v") ∷ [])
    (Forever (lines (Forever (lines (Break ∷ []))
    ∷ While (int 1) (lines (Assign (Name (codes "v")) (Binary Add (Name (codes "v")) (int 1))
    ∷ If (Binary Lt (Name (codes "v")) (int 3)) (lines (Continue ∷ [])) no_lines ∷ Break ∷ []))
    ∷ Call None (codes "dos_exit") (Name (codes "v") ∷ []) 2 ∷ [])) ∷ [])

nested-end : (after (step (text_of nested [])) 16 (begins nested [])).end ≡ Exit 3
nested-end = refl

nested-before : (after (step (text_of nested [])) 15 (begins nested [])).end ≡ Running
nested-before = refl

-- The written form.

abbrev shown : Lines
shown =
    lines (While (Name (codes "a")) (lines (If (Name (codes "b")) (lines (Break ∷ [])) (lines (Label (codes "L")
    ∷ Call None (codes "g") (Name (codes "a") ∷ Unary Minus (Unary Minus (Name (codes "b"))) ∷ []) 2 ∷ [])) ∷ []))
    ∷ DoWhile no_lines (Binary Mul (Binary Add (Name (codes "a")) (Name (codes "b"))) (Cast (pointer_to Int) (Name (codes "a"))))
    ∷ Switch (Name (codes "a")) no_arms (arm [] (lines (Return None ∷ [])) no_arms) ∷ [])

shown-written : written_lines 1 2 shown
    ≡ codes "    while (a) {\n        if (b) {\n            break;\n        } else {\nL:\n            g(a, -(-b));\n        }\n    }\n    do {\n    } while ((a + b) * (int *)a);\n    switch (a) {\n        default:\n        return;\n        break;\n    }\n"
shown-written = refl
