pub mod Loads
pub mod inner
