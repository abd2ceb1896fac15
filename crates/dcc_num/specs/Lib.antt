pub mod Halves
pub mod Laws
pub mod Logic
pub mod Numbers
pub mod Product
pub mod Quotient
pub mod Shift
pub mod Sum
