pub mod backfill
pub mod Background
pub mod inner
