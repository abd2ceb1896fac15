-- The values and states that those of the plain run stand for.
use Rattle.std.specs.Prelude.{◌%◌, ◌&&◌, nat_le, nat_lt, if◌then◌else◌, slice_index, ℕ, List, fold, map, reverse, drop}
use Rattle.std.specs.Prelude.{Option, Some, None}
use denote.Ref.{Bor}
use Rattle.dcc_run.specs.End.{End, Running, Exit as ExitWith, Divide, Stuck}
use Rattle.dcc_run.specs.Event.{Event, Wrote, Took, MetEnd}
use Rattle.dcc_ir.specs.declared.syntax.Block.{Block as BlockOf}
use Rattle.dcc_ir.specs.declared.plain.scene.Held.{Held}
use Rattle.dcc_ir.specs.declared.plain.scene.View.{View}
use Rattle.dcc_ir.specs.declared.plain.state.End.{End as Ending}
use Rattle.dcc_ir.specs.declared.plain.state.End.TheVariants.{Running as StillRunning, Exit as Exits, Divide as Divides}
use Rattle.dcc_ir.specs.declared.plain.state.End.TheVariants.{Stuck as IsStuck}
use Rattle.dcc_ir.specs.declared.plain.state.Event.{Event as Happening}
use Rattle.dcc_ir.specs.declared.plain.state.Event.TheVariants.{Wrote as Writes, Took as Takes, MetEnd as MeetsEnd}
use Rattle.dcc_ir.specs.declared.plain.state.Activation.{Activation as Called}
use Rattle.dcc_ir.specs.declared.plain.state.Waiting.{Waiting as Waits}
use Rattle.dcc_ir.specs.declared.plain.state.PlainRun.{PlainRun}
use Rattle.dcc_ir.specs.declared.syntax.Graph.{Graph as GraphOf}
use Rattle.dcc_ir.specs.Tree.{Block, Graph}
use Rattle.dcc_ir.specs.Views.{stmt_of, block_of, graph_of}
use Rattle.dcc_ir.specs.Location.{Values, with_value, filled}
use Rattle.dcc_ir.specs.Value.{Environment}
use Rattle.dcc_ir.specs.Run.{Activation, Waiting, State, no_block}

-- the event of the definitions that a happening of the plain run stands for
abbrev pub event_of : Happening → Event
event_of (Writes byte) = Wrote byte
event_of (Takes byte) = Took byte
event_of MeetsEnd = MetEnd

-- the values after locations have taken what the plain run holds, one after another, from the fill on
abbrev pub values_of : List ℕ → ℕ → List Held → Values
values_of bits fill held = fold (λ values h. with_value values h.at h.bits) (filled bits fill) held

-- what the expressions read in a view of the plain run
abbrev pub scene_of : View → Environment
scene_of view = record {
  bits = view.bits.now;
  values = values_of view.bits.now view.fill view.held.now;
  base = view.base;
  memory = view.memory.now;
}

-- the end of the definitions that an ending of the plain run stands for
abbrev pub end_of : Ending → End
end_of StillRunning = Running
end_of (Exits code) = ExitWith code
end_of Divides = Divide
end_of (IsStuck entry) = Stuck entry

-- the block that is lent
abbrev pub shared_block_of : Bor BlockOf → Block
shared_block_of block = block_of block.now

-- the block, where there is one
abbrev pub block_or_none : Option (Bor BlockOf) → Block
block_or_none (Some block) = shared_block_of block
block_or_none None = no_block

-- the graph that is lent
abbrev pub shared_graph_of : Bor GraphOf → Graph
shared_graph_of graph = graph_of graph.now

-- a call of a graph
abbrev pub activation_of : ℕ → Called → Activation
activation_of fill a = record {
  graph = graph_of a.graph.now;
  block = block_or_none a.block;
  rest = map stmt_of a.rest.now;
  begins = a.begins;
  values = values_of a.graph.now.bits.items fill a.held.items;
  base = a.base;
}

-- a caller that waits
abbrev pub waiting_of : ℕ → Waits → Waiting
waiting_of fill w = record { caller = activation_of fill w.caller; results = w.results.now }

-- the state of a run
abbrev pub state_of : PlainRun → State
state_of run = record {
  running = activation_of run.fill run.running;
  waiting = reverse (map (waiting_of run.fill) run.waiting.items);
  memory = run.memory.items;
  input = drop run.taken run.input.items;
  events = map event_of run.events.items;
  end = end_of run.end;
}

-- the byte of the memory at an address, at the start
abbrev pub first_byte : List ℕ → ℕ → ℕ → ℕ → ℕ → ℕ
first_byte image lo hi fill at = if nat_le lo at && nat_lt at hi then fill % 256 else slice_index image at
