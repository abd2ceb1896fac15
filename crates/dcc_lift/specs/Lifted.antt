-- What the lifted program is to the executable.
use Rattle.std.specs.Prelude.{◌≡◌, ◌≤◌, ◌<◌, ℕ, ◌+◌, ◌==◌, Bool, true, ◌&&◌, ◌||◌, List, [], ◌∷◌, All, Some, None}
use Rattle.std.specs.List.{AllZip, list_any}
use Rattle.dcc_run.specs.ProgramPoint.{ProgramPoint}
use Rattle.dcc_run.specs.Shadows.{Shadows, KeepsPace, only}
use Rattle.dcc_machine.specs.declared.image.Image.{Image}
use Rattle.dcc_prog.specs.declared.procedure.Node.{Node}
use Rattle.dcc_prog.specs.declared.procedure.Proc.{Proc}
use Rattle.dcc_prog.specs.declared.frame.Program.{Program as Analysed}
use Rattle.dcc_machine.specs.declared.instr.Op.TheVariants.{Call}
use Rattle.dcc_machine.specs.Successors.{next_of}
use Rattle.dcc_prog.specs.Watch.{watched_machine, first_watch}
use Rattle.dcc_ir.specs.Tree.{Expr, Ret, Graph, Program}
use Rattle.dcc_ir.specs.Use.{graph_exprs}
use Rattle.dcc_ir.specs.Measure.{depth_of}
use Rattle.dcc_ir.specs.FlagReads.{FlagsReadPlainly}
use Rattle.dcc_ir.specs.WellFormed.{IsProgram}
use Rattle.dcc_ir.specs.Passing.{PassesAll}
use Rattle.dcc_ir.specs.Run.{graph_at, watched_inner, first_state}
use Rattle.dcc_ir.specs.Flow.{Flow, graph_or_none, flow_at, IsPath, Any, Reached, IsContraction, HaveOneEdge}
use Rattle.dcc_ir.specs.Keeps.{has_block}
use Rattle.dcc_ir.specs.Ends.{IsNeverStuck}
use Rattle.dcc_simulation.specs.Procedures.{Procedure, procedure_at, given_back, pushed_of}
use Rattle.dcc_simulation.specs.Nodes.{procedures_in, IsGraphFor}
use Rattle.dcc_lift.specs.FlagStmts.{HasFewFlagStmts}
use Rattle.dcc_lift.specs.Translation.{data_image, IsTranslation}

-- Runs.

-- For every fill and input the program's run shadows the machine's: for each clean number of the machine's steps there
-- is a number of the program's, in which it has come to just those of its blocks at whose places the machine stood, in
-- their order and with equal events, and has ended alike where the machine has; and wherever it begins a block or ends
-- from then on, its events begin with the machine's.
abbrev pub ShadowsMachine : Image → Analysed → Program → Type 0
ShadowsMachine image program p =
    (fill : ℕ) (input : List ℕ) → fill < 65536 → All (λ byte. byte < 256) input
    → Shadows (only (has_block p) (watched_machine program)) (first_watch image input)
    (watched_inner p fill) (first_state p fill input)

-- Between two kept places that hold the paths of procedures, as those of blocks do, the machine runs no instruction of
-- a procedure twice, and passes at most one call or return; a procedure has at most 4,096 instructions. So these are
-- the most steps from the one place to the next.
abbrev pub steps_between : ℕ
steps_between = 8192

-- The most steps of the machine to the first place of a block: the instructions of the prelude come first, at most
-- 65,535.
abbrev pub steps_at_start : ℕ
steps_at_start = 65535 + steps_between

-- for every input the machine comes to kept places, to its end or to where it is foul, within such numbers of steps
abbrev pub PacedAt : Image → Analysed → (ProgramPoint → Bool) → Type 0
PacedAt image program kept =
    (input : List ℕ) → All (λ byte. byte < 256) input
    → KeepsPace (only kept (watched_machine program)) (first_watch image input) steps_at_start steps_between

-- the machine comes to places of blocks within such numbers of steps
abbrev pub MachineKeepsPace : Image → Analysed → Program → Type 0
MachineKeepsPace image program p = PacedAt image program (has_block p)

-- Blocks.

-- the instructions of a procedure and where they go on
abbrev pub procedure_flow : Proc → Flow
procedure_flow proc = record {
  start = proc.entry;
  has = λ a. list_any (λ found. found.0 == a) proc.nodes.entries;
  goes = λ a b.
      list_any (λ found. (found.0 == a) && list_any (λ next. next == b) found.1.succ.items) proc.nodes.entries;
}

-- the flow graph with one block more, at an offset of the prelude, that goes to the procedure's entry
abbrev pub after_prelude : ℕ → Flow → Flow
after_prelude at flow = record {
  start = at;
  has = λ a. (at == a) || flow.has a;
  goes = λ a b. ((at == a) && (flow.start == b)) || flow.goes a b;
}

-- a CALL begins a block, and the instruction after it begins another
pub record IsBlockOfCall (flow : Flow) (found : ℕ × Node) : Type 0 where
  pub begins : flow.has found.0 ≡ true
  pub after : flow.has (next_of found.0 found.1.instr) ≡ true

-- Every closed path of a procedure's instructions holds a block. Each instruction that begins no block has one edge in,
-- and the edges of the graph are those of the instructions, with each such one taken into the one before it. A call
-- stands alone in its block.
pub record HasBlocksOf (flow : Flow) (p : Program) (proc : Proc) : Type 0 where
  pub contraction : IsContraction flow (flow_at p proc.entry)
  pub one_edge : HaveOneEdge flow (flow_at p proc.entry)
  pub calls :
      All (λ (found : ℕ × Node). (target : ℕ) → found.1.instr.op ≡ Call target
      → IsBlockOfCall (flow_at p proc.entry) found) proc.nodes.entries

-- each procedure's graph has blocks of its instructions; the entry procedure's graph begins with one block more, for
-- the prelude
abbrev pub AllHaveBlocks : Image → Program → List Proc → Type 0
AllHaveBlocks image p [] = Unit {0}
AllHaveBlocks image p (start ∷ procs) =
    HasBlocksOf (after_prelude image.ip (procedure_flow start)) p start
    × All (λ proc. HasBlocksOf (procedure_flow proc) p proc) procs

-- Kept offsets hold the paths of a procedure: each closed path of its instructions holds one, and each call, and each
-- block that ends in a return, begins at one.
pub record HoldsPathsOf (p : Program) (kept : ℕ → Bool) (proc : Proc) : Type 0 where
  pub cycles :
      (a : ℕ) (between : List ℕ)
      → Reached (procedure_flow proc) a
      → IsPath (procedure_flow proc).goes Any a between a
      → list_any kept (a ∷ between) ≡ true
  pub calls :
      All (λ (found : ℕ × Node). (target : ℕ) → found.1.instr.op ≡ Call target → kept found.0 ≡ true) proc.nodes.entries
  pub returns :
      All (λ block. (values : List Expr) → block.exit ≡ Ret values → kept block.at ≡ true)
      (graph_or_none (graph_at p.graphs proc.entry)).blocks

-- kept places hold those of each procedure
abbrev pub HoldsPaths : Analysed → Program → (ProgramPoint → Bool) → Type 0
HoldsPaths program p kept =
    All (λ proc. HoldsPathsOf p (λ at. kept (record { entry = proc.entry; at = at })) proc) program.procs.items

-- Graphs.

-- the numbers of the arguments that the procedure with an entry gives back
abbrev pub back_of : List Procedure → ℕ → List ℕ
back_of procedures entry = elim (procedure_at procedures entry) [ None ↦ [] | Some p ↦ given_back p ]

-- no expression of the graph is deeper than the number
abbrev pub IsShallow : ℕ → Graph → Type 0
IsShallow depth graph = All (λ e. depth_of e ≤ depth) (graph_exprs graph)

-- what a graph has of its procedure's frame
pub record HasFrameOf (p : Procedure) (graph : Graph) : Type 0 where
  pub local : graph.local ≡ p.frame.exposed.local
  pub pushed : graph.pushed ≡ pushed_of p

-- The program has a graph for each procedure, which takes the argument words where the frame has them, and passes all
-- halves and flags; its memory holds the image's data segment, and its stack is the layout's. It runs as the machine
-- does while that is clean, and no run of it is stuck.
pub record IsLifted (image : Image) (program : Analysed) (p : Program) : Type 0 where
  pub well_formed : IsProgram p
  pub graphs : AllZip (IsGraphFor program.layout.start_ip) (procedures_in program) p.graphs
  pub frames : AllZip HasFrameOf (procedures_in program) p.graphs
  pub passes : PassesAll (back_of (procedures_in program)) p
  pub image_is : p.image ≡ data_image image program.layout
  pub lo : p.lo ≡ program.layout.lo
  pub hi : p.hi ≡ program.layout.hi
  pub shallow : All (IsShallow 7) p.graphs
  pub flag_reads : All FlagsReadPlainly p.graphs
  pub flags : AllZip HasFewFlagStmts program.procs.items p.graphs
  pub runs : ShadowsMachine image program p
  pub pace : MachineKeepsPace image program p
  pub never_stuck : IsNeverStuck p
  pub blocks : AllHaveBlocks image p program.procs.items

-- All that is known of the program that `lift` gives.
pub record IsLiftOf (image : Image) (program : Analysed) (p : Program) : Type 0 where
  pub translation : IsTranslation image program.layout program.procs.items program.heights program.cells p
  pub lifted : IsLifted image program p
