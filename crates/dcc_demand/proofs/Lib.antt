pub mod ChangeLaws
pub mod SaveLaws
pub mod WantedLaws
pub mod SpreadLaws
pub mod TableLaws
mod Examples
