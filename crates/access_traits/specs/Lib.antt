pub mod Rights
pub mod inner
