pub mod WordsLaws
pub mod WordsAsked
