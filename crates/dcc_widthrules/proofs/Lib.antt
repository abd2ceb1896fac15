pub mod BitLaws
pub mod PartLaws
pub mod HalfLaws
