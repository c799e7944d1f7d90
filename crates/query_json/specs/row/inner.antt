-- Words of private functions.
pub mod Members
