-- Words of private functions.
pub mod Binding
pub mod Cells
pub mod Ends
pub mod Members
pub mod Selecting
pub mod Spots
pub mod Tails
