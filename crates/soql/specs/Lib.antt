pub mod grammar
pub mod Like
pub mod Worked
pub mod Lexis
pub mod inner
