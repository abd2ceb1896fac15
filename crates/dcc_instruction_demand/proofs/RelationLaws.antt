-- The lifted program and the machine's procedures have the same relations.
use Rattle.dcc_refinement.proofs.RefinedLaws.{refined-agree}
use Rattle.dcc_lifted_demand.specs.LiftedRefinement.{lifted_refinement}
use Rattle.dcc_lifted_demand.specs.LiftedIsRefined.{machine, inner}
use Rattle.dcc_lifted_demand.proofs.RefinedLaws.{lifted-is_refined}
use Rattle.dcc_instruction_demand.specs.Laws.{LiftedRelationsAreTheMachines}
use Rattle.dcc_instruction_demand.proofs.EnoughLaws.{agreeing-instructions_are_enough}
use Rattle.dcc_instruction_demand.proofs.InstructionLaws.{instructions-agree_with_their_statements}

pub lifted-relations_are_the_machines : LiftedRelationsAreTheMachines
lifted-relations_are_the_machines image program p is =
    refined-agree (machine image program p) (inner image program p) (lifted_refinement program)
    (lifted-is_refined image program p is (agreeing-instructions_are_enough image program p is (instructions-agree_with_their_statements image program p is)))
