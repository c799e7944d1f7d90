-- Words of private functions' contracts alone.
pub mod Kinds
pub mod Spots
pub mod Standing
