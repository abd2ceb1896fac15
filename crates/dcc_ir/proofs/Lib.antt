pub mod ListLaws
pub mod ZipLaws
pub mod StepLaws
pub mod passes
pub mod RunLaws
pub mod PathLaws
pub mod FlowLaws
pub mod EdgeLaws
pub mod GraphLaws
pub mod LocationLaws
pub mod FamilyLaws
pub mod StandLaws
pub mod KeepsLaws
pub mod ShiftLaws
pub mod PassLaws
mod Examples
pub mod FitLaws
pub mod ExecuteLaws
pub mod FitStates
pub mod ReachedLaws
pub mod UnstuckLaws
pub mod CallingPrograms
mod PassingExamples
