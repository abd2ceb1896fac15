pub mod SizeLaws
pub mod GivenLaws
pub mod OppositeLaws
pub mod TestLaws
pub mod SignedLaws
pub mod ZeroLaws
pub mod ArithmeticLaws
