pub mod Cells
pub mod Making
pub mod Cutting
pub mod Turns
