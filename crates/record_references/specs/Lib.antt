pub mod Referring
pub mod inner
