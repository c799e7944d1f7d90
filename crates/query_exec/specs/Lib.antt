pub mod Fails
pub mod Ranks
pub mod Relatives
pub mod Seen
pub mod Windows
pub mod Written
pub mod inner
