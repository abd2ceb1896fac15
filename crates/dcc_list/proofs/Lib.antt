pub mod Advancing
pub mod MarkLaws
pub mod PeopleLaws
pub mod Ready
pub mod Standing
pub mod Unbroken
