pub mod Rows
pub mod States
pub mod Written
pub mod inner
