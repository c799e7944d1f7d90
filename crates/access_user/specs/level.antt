pub mod Own
pub mod inner
