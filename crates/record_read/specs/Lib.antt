pub mod Decoding
pub mod Encoding
pub mod Rows
pub mod inner
