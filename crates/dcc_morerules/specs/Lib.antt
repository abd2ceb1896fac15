pub mod Further
pub mod Tests
pub mod Arithmetic
