pub mod Columns
pub mod Headings
pub mod Rows
pub mod Worked
pub mod inner
