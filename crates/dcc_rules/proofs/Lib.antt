pub mod AmongLaws
pub mod ReducedLaws
pub mod ResultLaws
pub mod NormalLaws
pub mod FactLaws
pub mod ToldLaws
