pub mod Columns
pub mod Reaching
pub mod Rules
pub mod Ways
