-- Local runs: an activation runs by itself, from a point of its graph up to the next call, edge or return.
use Rattle.std.specs.Prelude.{ℕ, zero, suc, ◌==◌, false, if◌then◌else◌, List, [], ◌∷◌, map, slice_get, Option, Some}
use Rattle.std.specs.Prelude.{None}
use Rattle.dcc_run.specs.End.{is_over}
use Rattle.dcc_ir.specs.declared.syntax.Loc.{Loc}
use Rattle.dcc_ir.specs.Tree.{Stmt, Call, Exit, Goto, If, Switch, Ret, Stop, Graph}
use Rattle.dcc_ir.specs.Run.{State, value_in, stuck, stmt_step, going_to, calling, graph_at, returning}

-- Points.

-- a point of a program: in the graph with that entry, in the block at that place, after the given number of the
-- block's calls
pub record Point : Type 0 where
  pub entry : ℕ
  pub place : ℕ
  pub calls : ℕ

-- the point at which the graph with that entry begins
abbrev pub start_of : ℕ → Point
start_of entry = record { entry = entry; place = 0; calls = 0 }

-- the point after the next call
abbrev pub next_of : Point → Point
next_of point = record point { calls = suc point.calls }

-- the statements after the next call
abbrev pub after_call : List Stmt → List Stmt
after_call [] = []
after_call (Call results entry arguments depth ∷ rest) = rest
after_call (stmt ∷ rest) = after_call rest

-- the statements after a number of calls
abbrev pub after_calls : ℕ → List Stmt → List Stmt
after_calls zero stmts = stmts
after_calls (suc calls) stmts = after_call (after_calls calls stmts)

-- Halts.

-- a call that is about to be made, with the values of its arguments
pub record Request : Type 0 where
  pub results : List Loc
  pub entry : ℕ
  pub arguments : List ℕ
  pub depth : ℕ

-- where a local run halts, and in which state: the run is over; a call is made, for which the state will wait; an edge
-- leads to the block at a place; values are given back
pub data Halt : Type 0 where
  Over : State → Halt
  Calls : Request → State → Halt
  Jumps : ℕ → State → Halt
  Returns : List ℕ → State → Halt

abbrev pub switch_halt : Option ℕ → State → Halt
switch_halt (Some place) s = Jumps place s
switch_halt None s = Over (stuck s)

-- where the end of a block leads
abbrev pub exit_halt : Exit → State → Halt
exit_halt (Goto place) s = Jumps place s
exit_halt (If test one other) s = Jumps (if value_in s test == 1 then one else other) s
exit_halt (Switch e places) s = switch_halt (slice_get places (value_in s e)) s
exit_halt (Ret values) s = Returns (map (value_in s) values) s
exit_halt Stop s = Over (stuck s)

-- the halt of the local run of the statements of a block
abbrev pub local_run : List Stmt → State → Halt
local_run [] s = exit_halt s.running.block.exit s
local_run (Call results entry arguments depth ∷ rest) s =
    Calls (record { results = results; entry = entry; arguments = map (value_in s) arguments; depth = depth })
    (record s { running = record s.running { rest = rest; begins = false } })
local_run (stmt ∷ rest) s =
    let next = stmt_step stmt s in
    if is_over next.end then Over next else local_run rest next

-- where the local run of a state halts
abbrev pub halt_of : State → Halt
halt_of s = local_run s.running.rest s

-- the state that a halt leads to: a step of the run is a local run, and what its halt leads to
abbrev pub led_to : List Graph → ℕ → Halt → State
led_to graphs fill (Over s) = s
led_to graphs fill (Calls call s) =
    calling fill call.results call.depth call.arguments (graph_at graphs call.entry) s
led_to graphs fill (Jumps place s) = going_to place s
led_to graphs fill (Returns values s) = returning values s.waiting s
