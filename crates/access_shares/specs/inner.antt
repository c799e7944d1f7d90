pub mod Finding
pub mod Accepting
