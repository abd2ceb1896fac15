pub mod DeadLaws
pub mod KindLaws
pub mod AddressLaws
pub mod GraphLaws
