pub mod Searching
pub mod UniqueRows
pub mod Clashing
pub mod References
