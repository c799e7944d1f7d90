pub mod Shows
pub mod Written
pub mod inner
