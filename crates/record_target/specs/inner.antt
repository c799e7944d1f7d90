-- Words of private functions' contracts alone.
pub mod Permitting
