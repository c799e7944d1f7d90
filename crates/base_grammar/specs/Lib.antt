pub mod Part
pub mod Reader
pub mod Exact
pub mod Place
pub mod Tokens
pub mod Lexing
pub mod Counts
