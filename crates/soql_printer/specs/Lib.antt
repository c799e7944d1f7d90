pub mod Printing
pub mod Nesting
pub mod inner
