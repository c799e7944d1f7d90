-- Words of private functions.
pub mod Branching
pub mod Reading
