pub mod KeptLaws
pub mod FormedLaws
pub mod GivenLaws
pub mod TraceLaws
pub mod BeginLaws
pub mod SiteLaws
pub mod ArgumentLaws
pub mod PassLaws
pub mod StayLaws
pub mod KeepLaws
pub mod JustLaws
pub mod Examples
mod SumExamples
