-- Words of private functions.
pub mod Found
