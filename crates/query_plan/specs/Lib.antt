pub mod order
pub mod paths
pub mod Checks
pub mod Given
pub mod Plans
pub mod Shown
pub mod inner
