-- Words of private functions' contracts alone.
pub mod Answers
pub mod Places
pub mod Kinds
