pub mod Demos
pub mod inner
