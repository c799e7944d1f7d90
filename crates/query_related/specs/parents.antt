pub mod Branches
pub mod Children
pub mod Parents
pub mod inner
