pub mod RunLaws
pub mod AgreementLaws
pub mod MadeLaws
