pub mod Signs
pub mod Grammar
pub mod Readers
pub mod Spelling
