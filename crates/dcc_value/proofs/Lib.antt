pub mod MemoryLaws
pub mod NameLaws
pub mod PlaceLaws
pub mod StandLaws
