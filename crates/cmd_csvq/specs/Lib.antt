pub mod Organisation
pub mod Outcomes
pub mod inner
