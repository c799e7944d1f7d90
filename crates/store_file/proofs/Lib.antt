pub mod Schemas
pub mod Kept
