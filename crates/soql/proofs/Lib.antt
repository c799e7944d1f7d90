pub mod Instances
pub mod QueryInstances
pub mod Spelled
pub mod Computing
pub mod Rows
