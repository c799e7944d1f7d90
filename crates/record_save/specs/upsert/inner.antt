-- Words of private functions.
pub mod Deciding
