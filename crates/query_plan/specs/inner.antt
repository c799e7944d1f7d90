-- Words of private functions.
pub mod Values
