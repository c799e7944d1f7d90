pub mod Targets
pub mod Inputs
pub mod Batches
pub mod inner
