pub mod KeptLaws
pub mod StayingLaws
