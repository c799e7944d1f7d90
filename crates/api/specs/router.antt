pub mod Pick
pub mod Find
pub mod Ways
pub mod Cuts
pub mod Routes
