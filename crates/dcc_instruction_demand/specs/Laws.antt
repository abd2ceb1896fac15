-- Each instruction does what its statements do together, and that is all that is to be shown of a lifted program.
use Rattle.std.specs.Prelude.{◌≡◌, ℕ, Some}
use Rattle.dcc_machine.specs.declared.image.Image.{Image}
use Rattle.dcc_prog.specs.declared.frame.Program.{Program as Analysed}
use Rattle.dcc_prog.specs.declared.procedure.Node.{Node}
use Rattle.dcc_ir.specs.Tree.{Program}
use Rattle.dcc_simulation.specs.Procedures.{pushed_of}
use Rattle.dcc_simulation.specs.Statements.{node_stmts}
use Rattle.dcc_lift.specs.Blocks.{node_in, BlockSource, nodes_in, height_in}
use Rattle.dcc_lift.specs.Translated.{IsTranslated}
use Rattle.dcc_refinement.specs.Laws.{HaveSameRelations}
use Rattle.dcc_lifted_demand.specs.LiftedRefinement.{scenes_in, scene_at, lifted_refinement}
use Rattle.dcc_lifted_demand.specs.LiftedIsRefined.{machine, inner, InstructionsAgree}
use Rattle.dcc_instruction_demand.specs.Agreement.{ending, Agrees}

module _ (image : Image) (program : Analysed) (p : Program) where
  -- an instruction of a procedure that is found, with the height of the stack before it
  pub record IsInstruction (entry at : ℕ) (scene : BlockSource) (node : Node) (height : ℕ) : Type 0 where
    pub scene_is : scene_at (scenes_in program) entry ≡ Some scene
    pub node_is : node_in (nodes_in scene) at ≡ Some node
    pub height_is : height_in scene.heights at ≡ Some height

  -- the instruction does what its statements do together
  abbrev pub AgreesWithItsStatements : ℕ → ℕ → BlockSource → Node → ℕ → Type 0
  AgreesWithItsStatements entry at scene node height =
      Agrees (machine image program p) (inner image program p) (lifted_refinement program) entry at
      (pushed_of scene.procedure) (node_stmts scene.cpu scene.procedures scene.procedure height node)
      (ending node.instr.op)

-- where each instruction does what its statements do together, the lifted program's points do what the machine's
-- instructions do
abbrev pub AgreeingInstructionsAreEnough : Type 0
AgreeingInstructionsAreEnough =
    (image : Image) (program : Analysed) (p : Program) → IsTranslated image program p
    → ((entry at : ℕ) (scene : BlockSource) (node : Node) (height : ℕ)
    → IsInstruction image program p entry at scene node height
    → AgreesWithItsStatements image program p entry at scene node height)
    → InstructionsAgree image program p

-- each instruction does what its statements do together
abbrev pub InstructionsAgreeWithTheirStatements : Type 0
InstructionsAgreeWithTheirStatements =
    (image : Image) (program : Analysed) (p : Program) → IsTranslated image program p
    → (entry at : ℕ) (scene : BlockSource) (node : Node) (height : ℕ)
    → IsInstruction image program p entry at scene node height
    → AgreesWithItsStatements image program p entry at scene node height

-- The lifted program and the machine's procedures have the same relations.
abbrev pub LiftedRelationsAreTheMachines : Type 0
LiftedRelationsAreTheMachines =
    (image : Image) (program : Analysed) (p : Program) → IsTranslated image program p
    → HaveSameRelations (machine image program p) (inner image program p) (lifted_refinement program)
