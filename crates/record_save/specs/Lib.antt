pub mod upsert
pub mod Creating
pub mod Updating
pub mod inner
