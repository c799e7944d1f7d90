pub mod Callers
pub mod Forms
