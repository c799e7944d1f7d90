pub mod diff
pub mod Changed
pub mod Made
pub mod Removed
pub mod Turned
