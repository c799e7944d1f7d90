pub mod Copies
pub mod Counts
pub mod Refused
pub mod Written
pub mod inner
