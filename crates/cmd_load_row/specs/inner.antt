-- Words of private functions.
pub mod Edits
pub mod Finding
pub mod Parents
pub mod Told
