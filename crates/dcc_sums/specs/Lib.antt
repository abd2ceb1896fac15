pub mod Points
pub mod Instance
pub mod Summaries
pub mod Localised
pub mod Laws
