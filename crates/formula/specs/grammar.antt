pub mod Signs
pub mod Terms
pub mod Grammar
pub mod Reading
pub mod Spelling
