pub mod Moved
pub mod ParseRules
pub mod RefusalLaws
pub mod StripLaws
pub mod TextLaws
