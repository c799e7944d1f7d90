pub mod Shareable
pub mod Shares
pub mod inner
