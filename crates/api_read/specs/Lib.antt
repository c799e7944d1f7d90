pub mod Tells
pub mod inner
