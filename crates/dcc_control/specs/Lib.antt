pub mod Plan
pub mod Valid
pub mod GotoPlan
pub mod Complete
pub mod Told
pub mod Laws
pub mod Views
pub mod Cases
