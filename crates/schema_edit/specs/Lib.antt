pub mod Judging
pub mod inner
pub mod Slots
