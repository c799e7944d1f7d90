-- Words of private functions.
pub mod Deciding
pub mod Pages
pub mod Rows
