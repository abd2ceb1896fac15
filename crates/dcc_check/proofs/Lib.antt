pub mod PlaceLaws
pub mod NameLaws
pub mod MapLaws
pub mod WholeLaws
pub mod ToldLaws
pub mod TellLaws
pub mod ListLaws
pub mod CaseLaws
