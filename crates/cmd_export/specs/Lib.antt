pub mod Exports
pub mod inner
