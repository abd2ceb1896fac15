pub mod Sources
pub mod StatementsTellPoints
pub mod InstructionPoints
pub mod InstructionsHavePoints
pub mod LiftedRefinement
pub mod LiftedIsRefined
