pub mod Rows
pub mod Ordered
pub mod Listed
pub mod Finding
pub mod Fronts
pub mod Scanned
pub mod Seeking
