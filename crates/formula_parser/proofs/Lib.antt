pub mod Lists
pub mod Top
