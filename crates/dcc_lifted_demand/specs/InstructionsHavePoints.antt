-- The points of a lifted graph are those of its instructions.
use Rattle.std.specs.Prelude.{◌≡◌, ◌≤◌, ℕ, true, false, List, [], ◌∷◌, ◌++◌, map, Contains, Some}
use Rattle.dcc_machine.specs.declared.image.Image.{Image}
use Rattle.dcc_prog.specs.declared.procedure.Layout.{Layout}
use Rattle.dcc_prog.specs.declared.procedure.Node.{Node}
use Rattle.dcc_ir.specs.Tree.{Graph}
use Rattle.dcc_sums.specs.Points.{Position, begin_of, Executes, site_of, nexts_of, is_return}
use Rattle.dcc_sums.specs.Instance.{procedure_of}
use Rattle.dcc_refinement.specs.Steps.{Walks}
use Rattle.dcc_lift.specs.Blocks.{node_in, successors_in, onward, BlockSource, nodes_in, entry_in, stmts_at}
use Rattle.dcc_lift.specs.Sound.{AreSound}
use Rattle.dcc_lift.specs.Translation.{IsGraphOf}
use Rattle.dcc_lifted_demand.specs.InstructionPoints.{returns_in, begin_at, points_at, end_sites}

module _ (scene : BlockSource) where
  -- the instructions from the offset on come to one that has points
  pub data ComesToPoints : ℕ → Type 0 where
    by_points : {at : ℕ} {first : Position} {others : List Position} → points_at scene at ≡ first ∷ others
        → ComesToPoints at
    by_next : {at next : ℕ} → points_at scene at ≡ []
        → Contains (successors_in (node_in (nodes_in scene) at)) next → ComesToPoints next → ComesToPoints at

  -- what the graph has of the instructions
  pub record HasInstructions (graph : Graph) : Type 0 where
    -- at the points of an instruction stand its statements, one after another, and then the end of its block, where
    -- this goes on to no other instruction
    pub sites : (at : ℕ) (node : Node) → node_in (nodes_in scene) at ≡ Some node
        → map (site_of graph) (points_at scene at)
        ≡ map Executes (stmts_at scene at) ++ end_sites scene (onward (nodes_in scene) (entry_in scene) at) at
    -- the points of an instruction go on to each other alone
    pub begins : (at : ℕ) (first : Position) (others : List Position) → points_at scene at ≡ first ∷ others
        → begin_at scene at ≡ first
    pub within : (at : ℕ) (before after : List Position) (point next : Position)
        → points_at scene at ≡ before ++ (point ∷ next ∷ after)
        → (nexts_of (site_of graph point) point ≡ next ∷ []) × (is_return (site_of graph point) ≡ false)
    -- the last point of an instruction goes on to where its successors begin
    pub goes : (at next : ℕ) → Contains (successors_in (node_in (nodes_in scene) at)) next
        → Walks (procedure_of graph) (begin_at scene at) (points_at scene at) (begin_at scene next)
    pub comes : (at : ℕ) (before : List Position) (point to : Position) → points_at scene at ≡ before ++ (point ∷ [])
        → Contains (nexts_of (site_of graph point) point) to
        → (next : ℕ) × Contains (successors_in (node_in (nodes_in scene) at)) next × (to ≡ begin_at scene next)
    -- a RET is one point, where the graph returns; the graph returns nowhere else
    pub returns : (at : ℕ) (before : List Position) (point : Position) → points_at scene at ≡ before ++ (point ∷ [])
        → is_return (site_of graph point) ≡ returns_in (node_in (nodes_in scene) at)
    pub alone : (at : ℕ) → returns_in (node_in (nodes_in scene) at) ≡ true
        → (point : Position) × (points_at scene at ≡ point ∷ [])
    -- each instruction comes to points
    pub settled : (at : ℕ) (node : Node) → node_in (nodes_in scene) at ≡ Some node → ComesToPoints at
    -- what calls is the first point of an instruction
    pub calls : (point : Position) (callee : ℕ)
        → ((procedure_of graph).action point).callee ≡ Some callee
        → (at : ℕ) × (others : List Position) × (points_at scene at ≡ point ∷ others)
    -- the entry's instruction begins where the graph does, if no other block comes before
    pub entry : scene.before ≡ 0 → begin_at scene (entry_in scene) ≡ begin_of 0

-- the points of the graph of a procedure, whose instructions are sound, are those of its instructions
abbrev pub InstructionsHavePoints : Type 0
InstructionsHavePoints =
    (image : Image) (layout : Layout) (scene : BlockSource) (graph : Graph) → IsGraphOf image layout scene graph
    → AreSound (nodes_in scene) (entry_in scene) image.ip → scene.before ≤ 1 → HasInstructions scene graph
