pub mod Operators
pub mod Slots
pub mod Types
pub mod Values
pub mod Shapes
pub mod Texts
