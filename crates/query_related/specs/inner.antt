-- Words of private functions.
pub mod Referring
pub mod Taken
