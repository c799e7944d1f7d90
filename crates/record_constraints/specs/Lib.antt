pub mod Judged
pub mod References
pub mod Uniques
pub mod inner
