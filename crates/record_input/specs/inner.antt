-- Words of private functions.
pub mod Columns
pub mod Fields
pub mod Found
pub mod Keys
pub mod Read
