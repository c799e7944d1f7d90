pub mod Plain
pub mod Composed
pub mod Choices
pub mod Gives
pub mod PartLaws
pub mod Shapes
