pub mod FaultLaws
pub mod StandLaws
pub mod LeftLaws
pub mod WalkLaws
