pub mod parents
pub mod Children
pub mod inner
