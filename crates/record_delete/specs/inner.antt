-- Words of private functions.
pub mod Adding
pub mod There
pub mod Clearing
pub mod Counts
pub mod Doomed
