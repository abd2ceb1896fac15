pub mod PassLaws
pub mod KnownLaws
pub mod WriteLaws
pub mod CountLaws
pub mod AloneLaws
pub mod CarriedLaws
pub mod ChainLaws
pub mod NextLaws
pub mod SeenLaws
pub mod DepthLaws
pub mod FoundLaws
pub mod PartLaws
pub mod BlockLaws
pub mod SearchLaws
mod Examples
