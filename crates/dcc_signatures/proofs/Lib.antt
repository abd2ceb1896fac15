pub mod MergeLaws
pub mod MoreLaws
pub mod PutLaws
pub mod OneLaws
pub mod PassLaws
pub mod KeepLaws
pub mod FormedLaws
pub mod ProgramLaws
pub mod WholeLaws
pub mod StayLaws
pub mod JustLaws
pub mod PackLaws
pub mod GiveLaws
pub mod DepthLaws
pub mod LocalLaws
mod Examples
