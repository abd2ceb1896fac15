pub mod ExpressionSteps
pub mod LineLaws
pub mod StatementLaws
pub mod TextLaws
pub mod calls
