pub mod Finding
pub mod Upserting
pub mod inner
