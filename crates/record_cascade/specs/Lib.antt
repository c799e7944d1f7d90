pub mod Cascade
pub mod Deletion
pub mod inner
