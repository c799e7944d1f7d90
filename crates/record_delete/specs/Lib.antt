pub mod Deleting
pub mod inner
