pub mod UserSet
pub mod inner
