pub mod Cuts
pub mod Numbers
pub mod PieceLaws
pub mod Runs
pub mod WordLists
pub mod Words
pub mod laws
