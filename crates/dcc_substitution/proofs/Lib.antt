pub mod AvailableLaws
pub mod SubstituteLaws
pub mod SubstitutedLaws
pub mod FreshLaws
pub mod RunLaws
mod Examples
