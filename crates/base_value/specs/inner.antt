-- Words of private functions' contracts alone.
pub mod Mantissas
pub mod Splits
