pub mod router
pub mod Forms
pub mod inner
