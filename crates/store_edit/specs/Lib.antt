pub mod Rows
pub mod Edits
pub mod Naming
pub mod Judging
