pub mod Places
pub mod Held
pub mod Keyrings
pub mod Reading
pub mod inner
