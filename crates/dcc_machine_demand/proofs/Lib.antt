pub mod LeftLaws
pub mod MadeLaws
pub mod PlaceLaws
pub mod AlikeBodies
pub mod FoundLaws
pub mod RefusedLaws
pub mod Examples
mod StackExamples
