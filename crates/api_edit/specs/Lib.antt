pub mod Administration
pub mod inner
