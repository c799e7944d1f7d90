-- Words of private functions' contracts.
pub mod Changes
pub mod Merging
pub mod Turns
