mod StepLaws
mod TransferLaws
pub mod TrailLaws
pub mod WantedLaws
pub mod RefinedLaws
mod Examples
