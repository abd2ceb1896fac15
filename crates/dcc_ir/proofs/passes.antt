pub mod LocalLaws
pub mod CallLaws
pub mod Theorem
pub mod AgreeLaws
pub mod SameLaws
pub mod FormLaws
pub mod TrimLaws
pub mod WithoutLaws
pub mod ReplaceLaws
mod Examples
