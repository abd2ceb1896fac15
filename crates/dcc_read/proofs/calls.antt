-- With more calls than enough the same is read.
pub mod Expressions
pub mod Simple
pub mod Statements
pub mod Declarations
pub mod Texts
