-- The blocks of a procedure's instructions: which instructions begin one, and which stand in it. An instruction joins
-- the block of the one before it where nothing else leads to it, neither of them is a CALL and the one before is no
-- jump through a table, which always ends its block. The public contract tells besides what the blocks are by paths
-- (specs/Lifted.antt).
use Rattle.std.specs.Prelude.{◌≡◌, ℕ, suc, ◌==◌, nat_lt, Bool, true, false, not, ◌&&◌, if◌then◌else◌, List, [], ◌∷◌}
use Rattle.std.specs.Prelude.{◌+◌, map, filter, flat_map, Option, Some, None}
use Rattle.dcc_machine.specs.declared.cpu.Cpu.{Cpu}
use Rattle.dcc_machine.specs.declared.instr.Op.{Op}
use Rattle.dcc_machine.specs.declared.instr.Op.TheVariants.{Table, Call}
use Rattle.dcc_prog.specs.declared.procedure.Node.{Node}
use Rattle.dcc_ir.specs.Tree.{Stmt, Exit, Stop, Block}
use Rattle.dcc_simulation.specs.Procedures.{Procedure}
use Rattle.dcc_simulation.specs.Statements as placed
use Rattle.dcc_simulation.specs.Passed as passed

-- instructions by their offsets, in ascending order
abbrev pub Nodes : Type 0
Nodes = List (ℕ × Node)

-- the instruction at an offset
abbrev pub node_in : Nodes → ℕ → Option Node
node_in [] at = None
node_in (found ∷ nodes) at = if found.0 == at then Some found.1 else node_in nodes at

-- where an instruction goes on
abbrev pub successors_in : Option Node → List ℕ
successors_in None = []
successors_in (Some node) = node.succ.items

-- the offsets from which edges lead to one, each as often as edges do
abbrev pub edges_into : Nodes → ℕ → List ℕ
edges_into nodes to = flat_map (λ found. map (λ _. found.0) (filter (λ next. next == to) found.1.succ.items)) nodes

-- the list has one member
abbrev pub is_one : List ℕ → Bool
is_one (x ∷ []) = true
is_one xs = false

-- the instruction is a CALL
abbrev pub is_call : Op → Bool
is_call (Call target) = true
is_call op = false

abbrev pub calls_in : Option Node → Bool
calls_in None = false
calls_in (Some node) = is_call node.instr.op

-- the instruction is a jump through a table
abbrev pub is_table : Op → Bool
is_table (Table r offset) = true
is_table op = false

abbrev pub jumps_by_table_in : Option Node → Bool
jumps_by_table_in None = false
jumps_by_table_in (Some node) = is_table node.instr.op

-- the only edge comes from a lower offset, whose instruction is no CALL and no jump through a table and goes on nowhere
-- else
abbrev pub comes_from_below : Nodes → List ℕ → ℕ → Bool
comes_from_below nodes (from ∷ []) at =
    nat_lt from at && is_one (successors_in (node_in nodes from)) && not (calls_in (node_in nodes from))
    && not (jumps_by_table_in (node_in nodes from))
comes_from_below nodes edges at = false

-- the instruction joins the block of the one before it; the instruction at the entry begins a block, for the start
-- leads there too
abbrev pub joins : Nodes → ℕ → ℕ → Bool
joins nodes entry at =
    not (at == entry) && comes_from_below nodes (edges_into nodes at) at && not (calls_in (node_in nodes at))

-- the offset, where the instruction there joins the block
abbrev pub if_joins : Nodes → ℕ → List ℕ → Option ℕ
if_joins nodes entry (next ∷ []) = if joins nodes entry next then Some next else None
if_joins nodes entry places = None

-- the next instruction of the block
abbrev pub onward : Nodes → ℕ → ℕ → Option ℕ
onward nodes entry at = if_joins nodes entry (successors_in (node_in nodes at))

-- the offsets of a block's instructions after one of them, to the block's end
abbrev pub IsChain : Nodes → ℕ → ℕ → List ℕ → Type 0
IsChain nodes entry at [] = onward nodes entry at ≡ None
IsChain nodes entry at (next ∷ rest) = (onward nodes entry at ≡ Some next) × IsChain nodes entry next rest

-- the offsets at which blocks begin: the entry, then the others in ascending order
abbrev pub leaders : Nodes → ℕ → List ℕ
leaders nodes entry =
    entry ∷ filter (λ at. not (at == entry) && not (joins nodes entry at)) (map (λ found. found.0) nodes)

-- the place of an offset in a list
abbrev pub place_in : List ℕ → ℕ → ℕ
place_in [] at = 0
place_in (x ∷ xs) at = if x == at then 0 else suc (place_in xs at)

-- What the blocks of a procedure are made of.
pub record BlockSource : Type 0 where
  -- the processor
  pub cpu : Cpu
  -- all procedures, and the procedure whose blocks these are
  pub procedures : List Procedure
  pub procedure : Procedure
  -- the heights of the stack at the procedure's instructions, by their offsets
  pub heights : List (ℕ × ℕ)
  -- how many blocks of the graph come before those of the procedure's instructions
  pub before : ℕ

abbrev pub nodes_in : BlockSource → Nodes
nodes_in scene = scene.procedure.proc.nodes.entries

abbrev pub entry_in : BlockSource → ℕ
entry_in scene = scene.procedure.proc.entry

-- the place of the block that begins at an offset
abbrev pub block_place : BlockSource → ℕ → ℕ
block_place scene at = scene.before + place_in (leaders (nodes_in scene) (entry_in scene)) at

-- Statements.

-- the height at an offset
abbrev pub height_in : List (ℕ × ℕ) → ℕ → Option ℕ
height_in [] at = None
height_in (found ∷ heights) at = if found.0 == at then Some found.1 else height_in heights at

abbrev pub node_stmts : BlockSource → Option ℕ → Option Node → List Stmt
node_stmts scene (Some height) (Some node) =
    placed.node_stmts scene.cpu scene.procedures scene.procedure height node
node_stmts scene _ _ = []

abbrev pub stmts_at : BlockSource → ℕ → List Stmt
stmts_at scene at = node_stmts scene (height_in scene.heights at) (node_in (nodes_in scene) at)

abbrev pub node_exit : BlockSource → Option Node → Exit
node_exit scene None = Stop
node_exit scene (Some node) =
    passed.exit_of scene.procedure node.instr.op (map (block_place scene) node.succ.items)

-- how the block ends that has its last instruction at an offset
abbrev pub exit_at : BlockSource → ℕ → Exit
exit_at scene at = node_exit scene (node_in (nodes_in scene) at)

-- the last of an offset and the list of others after it
abbrev pub last_of : ℕ → List ℕ → ℕ
last_of at [] = at
last_of at (next ∷ rest) = last_of next rest

-- the block that begins at an offset
pub record IsBlockAt (scene : BlockSource) (at : ℕ) (block : Block) : Type 0 where
  pub rest : List ℕ
  pub chain : IsChain (nodes_in scene) (entry_in scene) at rest
  pub at_is : block.at ≡ at
  pub stmts_are : block.stmts ≡ flat_map (stmts_at scene) (at ∷ rest)
  pub exit_is : block.exit ≡ exit_at scene (last_of at rest)

-- the blocks that begin at the offsets of the list, in their order
abbrev pub AreBlocksAt : BlockSource → List ℕ → List Block → Type 0
AreBlocksAt scene [] [] = Unit {0}
AreBlocksAt scene (at ∷ places) (block ∷ blocks) = IsBlockAt scene at block × AreBlocksAt scene places blocks
AreBlocksAt scene _ _ = ⊥
