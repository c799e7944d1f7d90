-- Words of private functions.
pub mod Clashes
pub mod Reading
pub mod Targets
