pub mod Forms
pub mod LawsOfSpellings
pub mod Named
pub mod Places
pub mod ReadBack
