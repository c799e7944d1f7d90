-- Words of private functions' contracts alone.
pub mod Reached
pub mod Order
pub mod Chosen
pub mod Rings
