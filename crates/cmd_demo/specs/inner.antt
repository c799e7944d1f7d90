-- Words of private functions.
pub mod Coming
