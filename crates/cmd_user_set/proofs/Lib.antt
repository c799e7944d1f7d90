pub mod Accepted
pub mod Secrets
pub mod Finding
pub mod There
pub mod Setting
pub mod Known
