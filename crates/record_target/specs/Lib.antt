pub mod Usable
pub mod Kept
pub mod Named
pub mod Shares
pub mod inner
