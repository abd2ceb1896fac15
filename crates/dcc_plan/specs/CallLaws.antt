-- Laws of calls and returns.
use Rattle.std.specs.Prelude.{◌≡◌, ℕ, ◌≤◌, false, List, [], ◌∷◌, length, map, drop, codes, All, Contains}
use Rattle.dcc_run.specs.End.{is_over}
use Rattle.dcc_run.specs.System.{after}
use Rattle.dcc_ir.specs.declared.syntax.Loc.{Loc}
use Rattle.dcc_ir.specs.Location.{location_width}
use Rattle.dcc_ir.specs.Run as inner_run
use Rattle.dcc_ir.specs.Tree as inner
use Rattle.dcc_ir.specs.Value.{Fits}
use Rattle.dcc_ir.specs.WellFormed.{all_ret_widths, IsProgram}
use Rattle.dcc_c.specs.Run as text_run
use Rattle.dcc_c.specs.Run.{ends_function, runs}
use Rattle.dcc_c.specs.Tree.{Lines, Tree}
use Rattle.dcc_text.specs.Holding.{Setting, IsWithin, target_for}
use Rattle.dcc_text.specs.Spelling.{Spelling}
use Rattle.dcc_text.specs.Stmts.{stmt_text}
use Rattle.dcc_variables.specs.Functions.{openings, BeginsWith, ret_text, IsFunctionOf}
use Rattle.dcc_plan.specs.Calls.{Opens, AreFunctions, StandsFor, StandsThere, IsReadyCall}

-- The start.

-- What the text of a program needs for its first state: the program is well formed, this is its first graph, whose
-- function is `start`, and the text has the upper end of the program's stack, and from every fill its first memory.
pub record IsBeginning (opens : Opens) (setting : Setting) (p : inner.Program) (tree : Tree) (first : inner.Graph)
    (others : List inner.Graph) : Type 0 where
  pub graphs : p.graphs ≡ first ∷ others
  pub well : IsProgram p
  pub functions : AreFunctions opens setting p tree
  pub start : IsFunctionOf first (codes "start") (setting.function first)
  pub hi : tree.hi ≡ p.hi
  pub memory : (fill : ℕ) → text_run.first_memory tree fill ≡ inner_run.first_memory p fill

-- Where the text begins as the program does, its first state stands for the program's.
abbrev pub FirstStatesStand : Opens → Setting → Type 0
FirstStatesStand opens setting = (p : inner.Program) (tree : Tree) (first : inner.Graph) (others : List inner.Graph)
    (fill : ℕ) (input : List ℕ) → IsBeginning opens setting p tree first others
    → StandsThere setting fill (inner_run.first_state p fill input)
    (text_run.first_state tree (setting.function first) fill input)

-- Calls.

-- the state at a Call, when the graph with its entry has been called
abbrev pub called : inner.Program → ℕ → List Loc → ℕ → List inner.Expr → ℕ → List inner.Stmt → inner_run.State
    → inner_run.State
called p fill results entry arguments depth rest i =
    inner_run.calling fill results depth (map (inner_run.value_in i) arguments) (inner_run.graph_at p.graphs entry)
    (record i { running = record (i.running) { rest = rest; begins = false } })

-- The callee has begun: its function's text has these lines before it, these calls wait, and the text stands for the
-- program.
pub record HasBegun (setting : Setting) (fill : ℕ) (lines : Lines) (waiting : List text_run.Waiting)
    (i : inner_run.State) (t : text_run.State) : Type 0 where
  pub comes_to : t.rest ≡ runs lines (ends_function t.frame.function.last)
  pub waits : t.waiting ≡ waiting
  pub stands : StandsThere setting fill i t

-- the call that waits in a text for a result, with those that waited before
abbrev pub waiting_with : Spelling → List Loc → text_run.State → List text_run.Waiting
waiting_with s results t = record { frame = t.frame; rest = t.rest; target = target_for s results } ∷ t.waiting

-- Where a text stands for a program before a Call, and what follows the Call in the text stands for what follows it in
-- the caller's block, a step on the Call's text and one for each opening assignment begin the callee: the text has
-- come to the lines after the openings, and stands for the program again. So no such step is stuck or faults.
abbrev pub CallsBegin : Opens → Setting → Type 0
CallsBegin opens setting = (p : inner.Program) (tree : Tree) (fill : ℕ) (results : List Loc) (entry : ℕ)
    (arguments : List inner.Expr) (own depth at : ℕ) (rest : List inner.Stmt) (lines : Lines)
    (i : inner_run.State) (t : text_run.State)
    → IsProgram p → AreFunctions opens setting p tree → Contains p.graphs i.running.graph
    → (call : IsReadyCall setting p i.running.graph i.running.block rest results entry arguments own)
    → BeginsWith (openings (opens call.agrees.callee) call.agrees.callee)
    (setting.function call.agrees.callee).body lines
    → Fits (inner_run.scene_of i) → is_over i.end ≡ false
    → StandsFor setting fill
    (setting.matters i.running.graph i.running.block (inner.Call results entry arguments own ∷ rest)) i t
    → setting.Continues t.rest i.running.graph i.running.block rest
    → HasBegun setting fill lines (waiting_with (setting.spelling i.running.graph) results t)
    (called p fill results entry arguments own rest i)
    (after (text_run.step tree) (length (openings (opens call.agrees.callee) call.agrees.callee))
    (text_run.stmt_step tree
    (stmt_text (setting.spelling i.running.graph) depth (inner.Call results entry arguments own)) at t))

-- Returns.

-- What a Ret with these values needs so that its text goes back to the caller: it ends a block of a graph other than
-- the first, it has at most one value, and the newest of the calls that wait takes values of the widths of this
-- graph's.
pub record IsReturning (opens : Opens) (setting : Setting) (p : inner.Program) (tree : Tree)
    (values : List inner.Expr) (w : inner_run.Waiting) (waiting : List inner_run.Waiting) (i : inner_run.State)
    : Type 0 where
  pub well : IsProgram p
  pub functions : AreFunctions opens setting p tree
  pub graph : Contains (drop 1 p.graphs) i.running.graph
  pub block : Contains i.running.graph.blocks i.running.block
  pub exit : i.running.block.exit ≡ inner.Ret values
  pub one : length values ≤ 1
  pub newest : i.waiting ≡ w ∷ waiting
  pub caller : Contains p.graphs w.caller.graph
  pub taken : All (λ widths. widths ≡ map (location_width w.caller.graph.bits) w.results)
      (all_ret_widths i.running.graph)
  pub goes_on : is_over i.end ≡ false

-- The caller has gone on: the newest of the calls that waited runs, and the text goes on with what stands for what
-- follows the Call, and stands for the program.
pub record HasReturned (setting : Setting) (fill : ℕ) (waiting : List text_run.Waiting) (i : inner_run.State)
    (t : text_run.State) : Type 0 where
  pub newest : text_run.Waiting
  pub waited : waiting ≡ newest ∷ t.waiting
  pub goes_on : t.rest ≡ newest.rest
  pub continues : setting.Continues t.rest i.running.graph i.running.block i.running.rest
  pub stands : StandsThere setting fill i t

-- Where a text stands for a program before a Ret, a step on the Ret's text goes back to the caller.
abbrev pub ReturnsEnd : Opens → Setting → Type 0
ReturnsEnd opens setting = (p : inner.Program) (tree : Tree) (fill : ℕ) (values : List inner.Expr)
    (w : inner_run.Waiting) (waiting : List inner_run.Waiting) (at : ℕ) (i : inner_run.State) (t : text_run.State)
    → IsReturning opens setting p tree values w waiting i → Fits (inner_run.scene_of i)
    → All (IsWithin (setting.spelling i.running.graph) (setting.matters i.running.graph i.running.block [])) values
    → StandsFor setting fill (setting.matters i.running.graph i.running.block []) i t
    → HasReturned setting fill t.waiting (inner_run.exit_step (inner.Ret values) i)
    (text_run.stmt_step tree (ret_text (setting.spelling i.running.graph) values) at t)

-- A step on the closing brace, where the Ret gives nothing, does what the Ret does.
abbrev pub BracesEnd : Opens → Setting → Type 0
BracesEnd opens setting = (p : inner.Program) (tree : Tree) (fill : ℕ) (w : inner_run.Waiting)
    (waiting : List inner_run.Waiting) (at : ℕ) (i : inner_run.State) (t : text_run.State)
    → IsReturning opens setting p tree [] w waiting i
    → StandsFor setting fill (setting.matters i.running.graph i.running.block []) i t
    → HasReturned setting fill t.waiting (inner_run.exit_step (inner.Ret []) i) (text_run.close_step at t)
