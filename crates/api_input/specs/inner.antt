-- Words of private functions' contracts alone.
pub mod Given
pub mod Kinds
pub mod Names
pub mod Outcomes
pub mod Said
pub mod Spelled
