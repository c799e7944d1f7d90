pub mod Slots
pub mod Seen
