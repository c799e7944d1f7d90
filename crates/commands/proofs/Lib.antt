pub mod Counts
pub mod Ends
pub mod Judging
pub mod OfExport
pub mod Deeds
pub mod Batching
pub mod Heading
pub mod Loaded
pub mod Planned
mod Inputs
mod Printouts
