pub mod level
pub mod Granting
pub mod Sights
pub mod inner
