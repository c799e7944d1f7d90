pub mod Branches
pub mod ByLayout
pub mod Ways
