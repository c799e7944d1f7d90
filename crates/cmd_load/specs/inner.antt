-- Words of private functions.
pub mod Owned
pub mod Headings
pub mod Reading
pub mod Joining
