-- Words of private functions.
pub mod Headings
