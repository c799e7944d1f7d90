-- Words of private functions.
pub mod Names
pub mod Rows
