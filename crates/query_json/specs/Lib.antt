pub mod row
pub mod Answers
pub mod Planned
pub mod inner
