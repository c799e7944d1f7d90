pub mod Objects
pub mod Texts
pub mod Listed
pub mod Read
pub mod Refusing
