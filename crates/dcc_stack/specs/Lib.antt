pub mod Accepted
pub mod Standing
pub mod Apart
pub mod Tables
pub mod Slots
pub mod SlotLaws
pub mod Laws
