pub mod Objects
pub mod Rows
pub mod Failing
pub mod inner
