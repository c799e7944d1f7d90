pub mod Columns
pub mod Given
pub mod inner
