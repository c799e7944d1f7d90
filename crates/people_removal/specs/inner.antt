pub mod Naming
pub mod Scanning
pub mod Removing
