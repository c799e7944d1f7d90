pub mod Runs
pub mod Histories
pub mod Calls
