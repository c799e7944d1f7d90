-- Words of private functions.
pub mod Holding
pub mod Masters
