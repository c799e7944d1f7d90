pub mod Lines
pub mod Secrets
pub mod inner
