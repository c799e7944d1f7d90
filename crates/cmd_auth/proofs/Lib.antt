pub mod Behind
pub mod Calling
pub mod Worlds
