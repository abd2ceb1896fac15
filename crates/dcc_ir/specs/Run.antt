-- The run of a program: its state, one step, and the run from the start.
use Rattle.std.specs.Prelude.{ℕ, ◌+◌, ◌-◌, ◌*◌, ◌/◌, ◌%◌, ◌==◌, ◌&&◌, nat_le, nat_lt, Bool, true, false, if◌then◌else◌}
use Rattle.std.specs.Prelude.{List, [], ◌∷◌, ◌++◌, map, find, get_or, slice_get, slice_index, Option, Some, None}
use Rattle.std.specs.List.{range_with_len}
use Rattle.dcc_run.specs.End.{End, Running, Exit as ExitWith, Divide, Stuck, is_over}
use Rattle.dcc_run.specs.Event.{Event, Wrote, Took, MetEnd, writes}
use Rattle.dcc_run.specs.ProgramPoint.{ProgramPoint}
use Rattle.dcc_run.specs.System.{System, after}
use Rattle.dcc_run.specs.Watched.{Watched}
use Rattle.dcc_ir.specs.declared.syntax.Loc.{Loc}
use Rattle.dcc_ir.specs.declared.syntax.Put.{Put}
use Rattle.dcc_ir.specs.declared.syntax.Put.TheVariants.{Memory, One, Two}
use Rattle.dcc_ir.specs.declared.syntax.Param.{Param}
use Rattle.dcc_ir.specs.Tree.{Expr, Stmt, Set, Fetch, Store, Div, Call, Dos, Exit, Goto, If, Switch, Ret, Stop, Block}
use Rattle.dcc_ir.specs.Tree.{Graph, Program}
use Rattle.dcc_ir.specs.Location.{Values, with_value, filled}
use Rattle.dcc_ir.specs.Value.{Environment, value_of, division_of, bytes_at, with_bytes_at}
use Rattle.dcc_ir.specs.Dos.{dos_string}

-- a call of a graph: where it stands, and what it has of its own
pub record Activation : Type 0 where
  pub graph : Graph
  pub block : Block
  -- the statements of the block that are still to be executed
  pub rest : List Stmt
  -- the block is about to begin
  pub begins : Bool
  pub values : Values
  -- the base of the frame, an address
  pub base : ℕ

-- an activation that waits for its callee, with the places of the results
pub record Waiting : Type 0 where
  pub caller : Activation
  pub results : List Loc

-- a state of the run
pub record State : Type 0 where
  pub running : Activation
  -- the activations that wait, the innermost first
  pub waiting : List Waiting
  -- the memory, of 65,536 bytes
  pub memory : List ℕ
  -- the input bytes that are not yet read, and what has happened at the console so far, the oldest first
  pub input : List ℕ
  pub events : List Event
  pub end : End

-- what the expressions of the running activation read
abbrev pub scene_of : State → Environment
scene_of s = record { bits = s.running.graph.bits; values = s.running.values; base = s.running.base; memory = s.memory }

-- the value of an expression in a state
abbrev pub value_in : State → Expr → ℕ
value_in s e = value_of (scene_of s) e

abbrev pub ended : End → State → State
ended end s = record s { end = end }

-- the run has no further step
abbrev pub stuck : State → State
stuck s = ended (Stuck s.running.graph.entry) s

-- a location of the running activation takes a value
abbrev pub setting : Loc → ℕ → State → State
setting location n s = record s { running = record s.running { values = with_value s.running.values location n } }

-- Statements within a block.

abbrev pub storing : ℕ → ℕ → ℕ → State → State
storing width address n s = record s { memory = with_bytes_at s.memory (width / 8) address n }

abbrev pub dividing : Loc → Option ℕ → State → State
dividing location (Some n) s = setting location n s
dividing location None s = ended Divide s

-- the state after these events at the console
abbrev pub happening : List Event → State → State
happening events s = record s { events = s.events ++ events }

abbrev pub writing : List ℕ → State → State
writing bytes s = happening (writes bytes) s

-- the state after the place has taken a byte, where there is a place
abbrev pub taking : Option Loc → ℕ → State → State
taking (Some location) byte s = setting location byte s
taking None byte s = s

-- the state after the next input byte was taken, and then written too where it is echoed; where there is none, 1Ah is
-- taken
abbrev pub keyed : Bool → Option Loc → List ℕ → State → State
keyed echo place [] s = happening (MetEnd ∷ []) (taking place 0x1A s)
keyed echo place (byte ∷ input) s =
    happening (Took byte ∷ (if echo then Wrote byte ∷ [] else [])) (taking place byte (record s { input = input }))

-- the value of an argument, where there is one
abbrev pub argument_in : State → Option Expr → ℕ
argument_in s (Some e) = value_in s e
argument_in s None = 0

-- a DOS call: 02h writes a byte, 4Ch ends the run, 01h takes a key and echoes it, 08h takes a key, 09h writes a string
abbrev pub dos_step : ℕ → Option Loc → ℕ → State → State
dos_step number place n s =
    if number == 0x02 then writing (n ∷ []) s
    else if number == 0x4C then ended (ExitWith n) s
    else if number == 0x01 then keyed true place s.input s
    else if number == 0x08 then keyed false place s.input s
    else if number == 0x09 then writing (dos_string s.memory n) s
    else stuck s

-- one statement that is no call
abbrev pub stmt_step : Stmt → State → State
stmt_step (Set location e) s = setting location (value_in s e) s
stmt_step (Fetch location width address) s = setting location (bytes_at s.memory (width / 8) (value_in s address)) s
stmt_step (Store width address e) s = storing width (value_in s address) (value_in s e) s
stmt_step (Div location e) s = dividing location (division_of (scene_of s) e) s
stmt_step (Dos number place argument) s = dos_step number place (argument_in s argument) s
stmt_step (Call results entry arguments depth) s = stuck s

-- the statements are executed in their order, up to the first that ends the run
abbrev pub execute : List Stmt → State → State
execute [] s = s
execute (stmt ∷ stmts) s = if is_over s.end then s else execute stmts (stmt_step stmt s)

-- Calls and returns.

abbrev pub is_call : Stmt → Bool
is_call (Call results entry arguments depth) = true
is_call _ = false

abbrev pub no_block : Block
no_block = record { at = 0; stmts = []; exit = Stop }

-- an activation of the graph before it has a block
abbrev pub activation : Graph → Values → ℕ → Activation
activation graph values base = record {
  graph = graph;
  block = no_block;
  rest = [];
  begins = false;
  values = values;
  base = base;
}

-- the running activation comes to that block, where there is one
abbrev pub entering : Option Block → State → State
entering (Some block) s =
    record s { running = record s.running { block = block; rest = block.stmts; begins = true } }
entering None s = stuck s

-- the running activation comes to the block at that place of its graph
abbrev pub going_to : ℕ → State → State
going_to place s = entering (slice_get s.running.graph.blocks place) s

-- the state after the argument at place j has gone where its param says
abbrev pub putting : ℕ → Put → ℕ → State → State
putting j Memory n s = storing 16 (s.running.base + 2 * j) n s
putting j (One location) n s = setting location n s
putting j (Two low high) n s = setting high (n / 256) (setting low (n % 256) s)

-- the arguments from place j on go where the params say
abbrev pub passing : ℕ → List Param → List ℕ → State → State
passing j (param ∷ params) (n ∷ arguments) s = passing (j + 1) params arguments (putting j param.put n s)
passing j _ _ s = s

-- the base of a callee
abbrev pub callee_base : ℕ → ℕ → ℕ
callee_base base depth = (base + 65536 - depth) % 65536

-- The graph is called: the caller waits, and the callee begins with its arguments. The callee's other locations hold
-- the fill.
abbrev pub calling : ℕ → List Loc → ℕ → List ℕ → Option Graph → State → State
calling fill results depth arguments (Some graph) s =
    going_to 0 (passing 0 graph.params arguments (record s {
      running = activation graph (filled graph.bits fill) (callee_base s.running.base depth);
      waiting = record { caller = s.running; results = results } ∷ s.waiting;
    }))
calling fill results depth arguments None s = stuck s

-- the graph with that entry
abbrev pub graph_at : List Graph → ℕ → Option Graph
graph_at graphs entry = find (λ g. g.entry == entry) graphs

-- the values go to the places of the results
abbrev pub giving : List Loc → List ℕ → State → State
giving (location ∷ results) (n ∷ values) s = giving results values (setting location n s)
giving _ _ s = s

-- the values go back to the innermost activation that waits
abbrev pub returning : List ℕ → List Waiting → State → State
returning values (w ∷ waiting) s = giving w.results values (record s { running = w.caller; waiting = waiting })
returning values [] s = stuck s

-- Blocks.

-- the switch goes to the block in the list, where its value has a place there
abbrev pub switching : Option ℕ → State → State
switching (Some place) s = going_to place s
switching None s = stuck s

-- what follows the statements of a block
abbrev pub exit_step : Exit → State → State
exit_step (Goto place) s = going_to place s
exit_step (If test one other) s = going_to (if value_in s test == 1 then one else other) s
exit_step (Switch e places) s = switching (slice_get places (value_in s e)) s
exit_step (Ret values) s = returning (map (value_in s) values) s.waiting s
exit_step Stop s = stuck s

-- a block from these statements on, up to its next call, return or end
abbrev pub block_step : List Graph → ℕ → List Stmt → State → State
block_step graphs fill [] s = exit_step s.running.block.exit s
block_step graphs fill (Call results entry arguments depth ∷ rest) s =
    calling fill results depth (map (value_in s) arguments) (graph_at graphs entry)
    (record s { running = record s.running { rest = rest; begins = false } })
block_step graphs fill (stmt ∷ rest) s =
    let next = stmt_step stmt s in
    if is_over next.end then next else block_step graphs fill rest next

-- one step: a block up to its next call, return or end. A state that has ended stays
abbrev pub step : Program → ℕ → State → State
step p fill s = if is_over s.end then s else block_step p.graphs fill s.running.rest s

-- The start.

-- the memory at the start: the low byte of the fill from `lo` to below `hi`, elsewhere the image and zeros above it
unfoldable pub first_memory : Program → ℕ → List ℕ
first_memory p fill =
    map (λ at. if nat_le p.lo at && nat_lt at p.hi then fill % 256 else slice_index p.image at) (range_with_len 0 65536)

abbrev pub no_graph : Graph
no_graph = record { entry = 0; params = []; local = 0; pushed = 0; blocks = []; bits = [] }

-- the state in which a graph begins as the first; the base of its frame lies 2 above the stack
abbrev pub opened : Graph → Program → ℕ → List ℕ → State
opened graph p fill input =
    going_to 0 (record {
      running = activation graph (filled graph.bits fill) ((p.hi + 2) % 65536);
      waiting = [];
      memory = first_memory p fill;
      input = input;
      events = [];
      end = Running;
    })

-- the state in which the first graph begins
abbrev pub first_state : Program → ℕ → List ℕ → State
first_state p fill input = opened (get_or p.graphs 0 no_graph) p fill input

-- the state that a run has reached after n steps
abbrev pub reached : Program → ℕ → List ℕ → ℕ → State
reached p fill input n = after (step p fill) n (first_state p fill input)

-- the runs of a program, with this fill
abbrev pub inner_system : Program → ℕ → System State
inner_system p fill = record { step = step p fill; events = λ s. s.events; end = λ s. s.end }

-- the block that is about to begin, by the entry of its graph and its own address
abbrev pub block_mark : State → Option ProgramPoint
block_mark s =
    if s.running.begins then Some (record { entry = s.running.graph.entry; at = s.running.block.at }) else None

-- the runs of a program, with this fill, of which the blocks are marked; no step is foul
abbrev pub watched_inner : Program → ℕ → Watched State ProgramPoint
watched_inner p fill = record { system = inner_system p fill; mark = block_mark; foul = λ s. false }
