pub mod SetLaws
pub mod SameRuns
