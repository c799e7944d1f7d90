-- Words of private functions.
pub mod Many
pub mod Rows
