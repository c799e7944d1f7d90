pub mod Runs
pub mod OfOwn
pub mod OfCsvq
pub mod OfDemo
pub mod OfTables
pub mod OfLoad
pub mod OfServing
pub mod Statuses
mod Answering
mod Falling
