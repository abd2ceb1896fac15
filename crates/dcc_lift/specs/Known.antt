-- What is known of the tables of a procedure's instructions. This stands between the definition of blocks and the code.
use Rattle.std.specs.Prelude.{◌≡◌, ◌≤◌, ℕ, ◌==◌, if◌then◌else◌, List, [], ◌∷◌, map, All}
use Rattle.std.specs.List.Sorted.{IsStrictlyIncreasing}
use Rattle.dcc_machine.specs.declared.image.Image.{Image}
use Rattle.dcc_prog.specs.declared.procedure.Layout.{Layout}
use Rattle.dcc_prog.specs.Height.{greatest_height}
use Rattle.dcc_ir.specs.declared.syntax.Param.{Param}
use Rattle.dcc_ir.specs.Tree.{Block}
use Rattle.dcc_simulation.specs.Passed.{params_of}
use Rattle.dcc_lift.specs.KnownProcedures.{procedure_of, KnowsProcedure, KnowsProcedures}
use Rattle.dcc_lift.specs.declared.flow.Instructions.{Instructions}
use Rattle.dcc_lift.specs.declared.outline.BlockSource.{BlockSource as Given}
use Rattle.dcc_lift.specs.declared.outline.Outline.{Outline}
use Rattle.dcc_lift.specs.Blocks.{Nodes, BlockSource, nodes_in, entry_in, leaders, AreBlocksAt}
use Rattle.dcc_lift.specs.Incoming.{AreIncoming}
use Rattle.dcc_lift.specs.Translation.{prelude_block}

-- the instructions by their offsets
abbrev pub nodes_of : Instructions → Nodes
nodes_of instructions = instructions.nodes.now.entries

-- the table of edges is that of the instructions
abbrev pub KnowsEdges : Instructions → Type 0
KnowsEdges instructions = AreIncoming (nodes_of instructions) instructions.incoming.items

-- what the blocks are made of
abbrev pub scene_given : Given → BlockSource
scene_given given = record {
  cpu = given.cpu;
  procedures = map procedure_of given.procedures.now;
  procedure = procedure_of given.procedure.now;
  heights = given.heights.now.entries;
  before = given.before;
}

abbrev pub source_of : Outline → BlockSource
source_of outline = scene_given outline.scene

-- what is known of the parts of which blocks are made: the procedures, that instructions ascend, and that no height is
-- above the greatest
pub record KnowsSource (given : Given) : Type 0 where
  pub procedure : KnowsProcedure given.procedure.now
  pub procedures : KnowsProcedures given.procedures.now
  pub ascending : IsStrictlyIncreasing (map (λ found. found.0) (nodes_in (scene_given given)))
  pub heights : All (λ (found : ℕ × ℕ). found.1 ≤ greatest_height) given.heights.now.entries
  pub before : given.before ≤ 1

-- the listed offsets are all at which blocks begin: the entry, then the others in ascending order
pub record KnowsLeaders (outline : Outline) : Type 0 where
  pub scene : KnowsSource outline.scene
  pub edges : KnowsEdges outline.instructions
  pub nodes : nodes_of outline.instructions ≡ nodes_in (source_of outline)
  pub start : outline.instructions.start ≡ entry_in (source_of outline)
  pub leaders_are : outline.leaders.items ≡ leaders (nodes_in (source_of outline)) (entry_in (source_of outline))

-- the blocks of a graph: those of the procedure's instructions, after the prelude's block where one comes before them
pub record AreBlocksOf (image : Image) (layout : Layout) (scene : BlockSource) (blocks : List Block) : Type 0 where
  pub own : List Block
  pub own_are : AreBlocksAt scene (leaders (nodes_in scene) (entry_in scene)) own
  pub blocks_are : blocks ≡ (if scene.before == 0 then own else prelude_block image layout scene ∷ own)

-- what a graph takes: nothing, where the prelude's block comes first
abbrev pub graph_params : BlockSource → List Param
graph_params scene = if scene.before == 0 then params_of scene.procedure else []

-- how many blocks come before those of the instructions in the graph of a number
abbrev pub before_of : ℕ → ℕ
before_of number = if number == 0 then 1 else 0
