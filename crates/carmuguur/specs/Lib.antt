pub mod FirstLine
pub mod InFile
pub mod Status
