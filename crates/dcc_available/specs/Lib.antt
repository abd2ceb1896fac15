pub mod Along
pub mod Shape
pub mod Known
pub mod Within
pub mod Rewritten
pub mod Rows
