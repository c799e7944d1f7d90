pub mod Instances
pub mod Spelled
pub mod Computing
pub mod Rows
