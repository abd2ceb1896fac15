pub mod PreludeLaws
pub mod PreludeSteps
pub mod PreludeOffsets
pub mod LayoutLaws
pub mod TrailLaws
pub mod ConstructLaws
pub mod Counting
pub mod FoundNodes
pub mod RefusedLaws
pub mod WatchLaws
pub mod StackMarks
pub mod CleanLaws
pub mod StoredMarks
pub mod SpLaws
pub mod PassedRuns
mod Examples
mod DivisionExamples
mod LayoutExamples
mod FrameExamples
mod CleanExamples
pub mod FrameLaws
pub mod WatchedAlike
