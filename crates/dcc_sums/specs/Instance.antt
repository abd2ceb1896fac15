-- The procedures of a program of the inner language, by what their points do. Words of the stack are the bytes of the
-- cells that stand for pushed words, told by their locations. No address reaches a cell, so each such word is private,
-- and no location is exposed.
use Rattle.std.specs.Prelude.{ℕ, nat_le, Bool, true, false, ◌&&◌, not, List, [], flat_map, filter, Option, Some, None}
use Rattle.std.specs.Prelude.{if◌then◌else◌}
use Rattle.dcc_ir.specs.declared.syntax.Loc.{Loc}
use Rattle.dcc_ir.specs.declared.syntax.Loc.TheVariants.{Half, Cell}
use Rattle.dcc_ir.specs.Tree.{Expr, Get, Stmt, Set, Call, Exit, Ret, Graph, Program}
use Rattle.dcc_ir.specs.Use.{reads_of, writes_of}
use Rattle.dcc_ir.specs.Demand.{uses_of, makes_of, tests_of}
use Rattle.dcc_ir.specs.Live.{is_among}
use Rattle.dcc_ir.specs.Passing.{passed}
use Rattle.dcc_ir.specs.Run.{graph_at}
use Rattle.dcc_ir.specs.Flow.{graph_or_none}
use Rattle.dcc_demand.specs.Procedures.{Effect, Leaves, Copies, Pops, Makes, WordEffect, LeavesWord, Pushes, Overwrites}
use Rattle.dcc_demand.specs.Procedures.{Action, Procedure, Procedures}
use Rattle.dcc_sums.specs.Points.{Position, begin_of, Site, Executes, Ends, Nowhere, site_of, nexts_of, is_return}

-- Locations.

-- the location passes between procedures
abbrev pub passes : Loc → Bool
passes location = is_among passed location

abbrev pub is_half : Loc → Bool
is_half (Half r h) = true
is_half location = false

-- the location is a byte of a cell that stands for a pushed word; these cells have numbers from the given one on
abbrev pub is_pushed : ℕ → Loc → Bool
is_pushed pushed (Cell n h) = nat_le pushed n
is_pushed pushed location = false

-- Statements.

-- a half or a flag that passes, and no word on the stack
abbrev pub is_passing : Expr → Bool
is_passing (Get location) = passes location
is_passing e = false

-- What a statement uses whatever is wanted after it. A Load uses nothing: what it sets is made of what its address
-- reads. What passes with a call counts as the call, so of the arguments only the words on the stack are used.
abbrev pub used_by : Stmt → List Loc
used_by (Call results entry arguments depth) = flat_map reads_of (filter (λ e. not (is_passing e)) arguments)
used_by stmt = uses_of stmt

-- What a statement writes. Of the places of a call's results only those of bytes of arguments are written.
abbrev pub written_by : Stmt → List Loc
written_by (Call results entry arguments depth) = filter (λ location. not (passes location)) results
written_by stmt = writes_of stmt

-- how a statement writes: by a POP of a half, by a copy, or by making a value
abbrev pub effect_of : ℕ → Stmt → Effect Loc Loc
effect_of pushed (Set location (Get from)) =
    if is_half location && is_pushed pushed from then Pops from else Copies from
effect_of pushed stmt = Makes

-- how a statement writes a word: by a PUSH of a half or otherwise
abbrev pub word_effect_of : Stmt → WordEffect Loc
word_effect_of (Set location (Get from)) = if is_half from then Pushes from else Overwrites
word_effect_of stmt = Overwrites

abbrev pub callee_of : Stmt → Option ℕ
callee_of (Call results entry arguments depth) = Some entry
callee_of stmt = None

-- what a statement does, where pushed words have the cells from the given number on
abbrev pub action_of : ℕ → Stmt → Action Loc Loc
action_of pushed stmt = record {
  uses = λ location. is_among (used_by stmt) location;
  effect = λ location. if is_among (written_by stmt) location then effect_of pushed stmt else Leaves;
  made_of = λ to location. is_among (makes_of stmt) location;
  surely = λ location. is_among (written_by stmt) location;
  word_effect = λ word. if is_among (written_by stmt) word then word_effect_of stmt else LeavesWord;
  callee = callee_of stmt;
}

-- Ends of blocks.

-- what the end of a block uses; what a Ret gives back counts as the return
abbrev pub used_at_end : Exit → List Loc
used_at_end (Ret values) = []
used_at_end exit = tests_of exit

-- the action that uses the locations and does nothing else
abbrev pub only_using : List Loc → Action Loc Loc
only_using locations = record {
  uses = λ location. is_among locations location;
  effect = λ location. Leaves;
  made_of = λ to location. false;
  surely = λ location. false;
  word_effect = λ word. LeavesWord;
  callee = None;
}

abbrev pub action_at : ℕ → Site → Action Loc Loc
action_at pushed (Executes stmt) = action_of pushed stmt
action_at pushed (Ends exit) = only_using (used_at_end exit)
action_at pushed Nowhere = only_using []

-- Graphs.

abbrev pub procedure_of : Graph → Procedure Position Loc Loc
procedure_of graph = record {
  entry = begin_of 0;
  next = λ a. nexts_of (site_of graph a) a;
  returns = λ a. is_return (site_of graph a);
  action = λ a. action_at graph.pushed (site_of graph a);
  is_private = λ word. is_pushed graph.pushed word;
  is_exposed = λ location. false;
}

-- the procedures of a program, by the entries of their graphs
abbrev pub procedures_of : Program → Procedures Position Loc Loc
procedures_of p =
    record { procedure = λ entry. procedure_of (graph_or_none (graph_at p.graphs entry)); passes = passes }
