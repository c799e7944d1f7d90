pub mod Rows
pub mod Removing
pub mod Adding
