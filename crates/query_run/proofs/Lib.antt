pub mod Named
pub mod Wider
