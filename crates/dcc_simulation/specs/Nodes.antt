-- What the statements of one instruction do to the inner run, beside the machine's clean step. The inner program has a
-- graph for each procedure that is found; the cells of a procedure are those that its places name.
use Rattle.std.specs.Prelude.{◌≡◌, ◌<◌, ℕ, pos, ◌==◌, true, false, if◌then◌else◌, List, [], ◌∷◌, map, slice_get}
use Rattle.std.specs.Prelude.{Contains, Option, Some, None}
use Rattle.std.specs.List.{AllZip}
use Rattle.dcc_run.specs.End.{Running, is_over}
use Rattle.dcc_num.specs.declared.Reg.TheVariants.{Bp}
use Rattle.dcc_prog.specs.declared.procedure.Node.{Node}
use Rattle.dcc_prog.specs.declared.frame.Cell.{Cell}
use Rattle.dcc_prog.specs.declared.frame.Program.{Program}
use Rattle.dcc_machine.specs.declared.instr.Instr.{Instr}
use Rattle.dcc_machine.specs.declared.instr.Op.TheVariants.{Call, Ret}
use Rattle.dcc_machine.specs.Machine.{State as Machine, word_in}
use Rattle.dcc_machine.specs.Step.{step}
use Rattle.dcc_prog.specs.Clean.{Stack, top_in, stack_after}
use Rattle.dcc_prog.specs.CleanLaws.{moves_frames}
use Rattle.dcc_stack.specs.Accepted.{IsAt, IsProgramOfFile}
use Rattle.dcc_stack.specs.Standing.{StandsIn}
use Rattle.dcc_ir.specs.Tree.{Exit, Goto, If, Switch, Ret as RetTo, Stop, Block, Graph}
use Rattle.dcc_ir.specs.Run.{State, Waiting, value_in, execute, graph_at, returning, block_step}
use Rattle.dcc_ops.specs.Temporaries.{temporary_bits}
use Rattle.dcc_simulation.specs.Coupled.{Setting, AreCoupled}
use Rattle.dcc_simulation.specs.Laws.{IsCleanInstruction, Within}
use Rattle.dcc_simulation.specs.Procedures.{Procedure, procedures_of, procedure_at, cells_of}
use Rattle.dcc_simulation.specs.Passed.{params_of, returned_values, exit_of}
use Rattle.dcc_simulation.specs.Statements.{calling, node_stmts}

-- The inner program.

-- the procedures of an analysed program, with their frames
abbrev pub procedures_in : Program → List Procedure
procedures_in program = procedures_of program.layout program.procs.items program.cells.frames.items

-- the cells of the procedure with that entry, in the order of their numbers
abbrev pub cells_at : List Procedure → ℕ → List Cell
cells_at procedures entry = elim (procedure_at procedures entry) [ None ↦ [] | Some p ↦ cells_of p ]

-- the graph is a procedure's, and takes what the procedure takes; the graph of the entry procedure takes nothing
pub record IsGraphFor (start : ℕ) (p : Procedure) (graph : Graph) : Type 0 where
  pub entry : graph.entry ≡ p.proc.entry
  pub params : graph.params ≡ (if p.proc.entry == start then [] else params_of p)
  pub bits : graph.bits ≡ temporary_bits

-- the block of a CALL in a procedure's graph has the CALL alone
abbrev pub HasCall : Setting → Procedure → Graph → Block → Type 0
HasCall e p graph block =
    (node : Node) (target : ℕ) (before : List ℕ) (height : ℕ) → Contains p.proc.nodes.entries (block.at, node)
    → node.instr.op ≡ Call target → IsAt e.image e.program.layout p.proc.entry block.at before (pos height)
    → block.stmts ≡ calling p height (procedure_at (procedures_in e.program) target)

-- what runs is the lifted program of the procedures that are found
pub record IsLifting (e : Setting) : Type 0 where
  pub of_file : IsProgramOfFile e.cpu e.image e.program
  pub cells : (entry : ℕ) → e.cells entry ≡ cells_at (procedures_in e.program) entry
  pub graphs : AllZip (IsGraphFor e.program.layout.start_ip) (procedures_in e.program) e.inner.graphs
  -- the prelude's block, which stands before those of the entry procedure, calls nothing
  pub calls :
      (p : Procedure) (graph : Graph) (block : Block)
      → procedure_at (procedures_in e.program) p.proc.entry ≡ Some p
      → graph_at e.inner.graphs p.proc.entry ≡ Some graph → Contains graph.blocks block
      → HasCall e p graph block

-- Instructions.

-- An instruction of the newest procedure is about to be executed, at a height.
pub record IsNodeHere (e : Setting) (s : Machine) (stack : Stack) (instr : Instr)
    (is : IsCleanInstruction e s stack instr) (p : Procedure) (node : Node) (height : ℕ) : Type 0 where
  pub lifting : IsLifting e
  pub procedure : procedure_at (procedures_in e.program) is.stands.newest.frame.entry ≡ Some p
  pub node_is : Contains p.proc.nodes.entries (s.ip, node)
  pub instr_is : node.instr ≡ instr
  pub stands : StandsIn e.image e.program.layout s.memory is.stands.newest (top_in e.program.layout s) (word_in s Bp)
  pub height_is : stands.height ≡ height

-- After the machine's step both runs agree, or both have ended alike.
pub data StepAgrees (e : Setting) (s : Machine) (stack : Stack) (instr : Instr) (u : State) : Type 0 where
  agree :
      AreCoupled e (step e.program.layout.cpu s)
      (stack_after e.program.layout (Some instr) s (step e.program.layout.cpu s) stack) u
      → StepAgrees e s stack instr u
  over :
      is_over (step e.program.layout.cpu s).end ≡ true
      → u.end ≡ (step e.program.layout.cpu s).end
      → u.events ≡ (step e.program.layout.cpu s).events
      → StepAgrees e s stack instr u

-- after the statements of each instruction but CALL and RET both runs agree, or both have ended alike
abbrev pub NodesAgree : Type 0
NodesAgree =
    (e : Setting) (s : Machine) (stack : Stack) (instr : Instr) (t : State) (p : Procedure) (node : Node) (height : ℕ)
    (is : IsCleanInstruction e s stack instr) → IsNodeHere e s stack instr is p node height
    → moves_frames instr.op ≡ false → Within is stack.written s t
    → StepAgrees e s stack instr (execute (node_stmts e.cpu (procedures_in e.program) p height node) t)

-- Ends of blocks.

-- the place to which an end leads
abbrev pub leads_to : Exit → State → Option ℕ
leads_to (Goto place) u = Some place
leads_to (If test one other) u = Some (if value_in u test == 1 then one else other)
leads_to (Switch e places) u = slice_get places (value_in u e)
leads_to (RetTo values) u = None
leads_to Stop u = None

-- Where the machine goes on after the step, the end of the instruction's block leads to the next instruction, if the
-- end's places are those of its successors.
abbrev pub ExitsLead : Type 0
ExitsLead =
    (e : Setting) (s : Machine) (stack : Stack) (instr : Instr) (t : State) (p : Procedure) (node : Node) (height : ℕ)
    (is : IsCleanInstruction e s stack instr) → IsNodeHere e s stack instr is p node height
    → moves_frames instr.op ≡ false → Within is stack.written s t
    → is_over (step e.program.layout.cpu s).end ≡ false
    → leads_to (exit_of p instr.op node.succ.items)
    (execute (node_stmts e.cpu (procedures_in e.program) p height node) t)
    ≡ Some (step e.program.layout.cpu s).ip

-- Calls and returns.

-- At the block of a CALL the inner run comes to the first block of the callee's graph, and agrees with the machine.
abbrev pub CallNodesAgree : Type 0
CallNodesAgree =
    (e : Setting) (s : Machine) (stack : Stack) (instr : Instr) (t : State) (p : Procedure) (node : Node) (height fill : ℕ)
    (target : ℕ) (callee : Procedure) (graph : Graph) (first : Block) (is : IsCleanInstruction e s stack instr)
    → IsNodeHere e s stack instr is p node height → instr.op ≡ Call target → Within is stack.written s t
    → Contains t.running.graph.blocks t.running.block → t.running.block.at ≡ s.ip → fill < 65536
    → procedure_at (procedures_in e.program) target ≡ Some callee
    → graph_at e.inner.graphs target ≡ Some graph → slice_get graph.blocks 0 ≡ Some first
    → AreCoupled e (step e.program.layout.cpu s)
    (stack_after e.program.layout (Some instr) s (step e.program.layout.cpu s) stack)
    (block_step e.inner.graphs fill (calling p height (Some callee)) t)
    × ((block_step e.inner.graphs fill (calling p height (Some callee)) t).running.block ≡ first)
    × ((block_step e.inner.graphs fill (calling p height (Some callee)) t).running.rest ≡ first.stmts)
    × ((block_step e.inner.graphs fill (calling p height (Some callee)) t).running.begins ≡ true)

-- the inner run after a Ret, and after the statements that follow the caller's Call
abbrev pub returned : Procedure → State → State
returned p t = returning (map (value_in t) (returned_values p)) t.waiting t

abbrev pub resumed : Procedure → State → State
resumed p t = execute (returned p t).running.rest (returned p t)

-- At a RET the inner run returns to the caller that waits, which takes back what the callee may have changed, and
-- agrees with the machine.
abbrev pub ReturnNodesAgree : Type 0
ReturnNodesAgree =
    (e : Setting) (s : Machine) (stack : Stack) (instr : Instr) (t : State) (p : Procedure) (node : Node) (height : ℕ)
    (count : ℕ) (is : IsCleanInstruction e s stack instr) → IsNodeHere e s stack instr is p node height
    → instr.op ≡ Ret count → Within is stack.written s t
    → (w : Waiting) × (waiting : List Waiting) × (t.waiting ≡ w ∷ waiting)
    × AreCoupled e (step e.program.layout.cpu s)
    (stack_after e.program.layout (Some instr) s (step e.program.layout.cpu s) stack) (resumed p t)
    × ((returned p t).end ≡ Running) × ((returned p t).running.rest ≡ w.caller.rest)
    × ((resumed p t).running.block ≡ w.caller.block)
