pub mod Bools
pub mod Orders
pub mod Numbers
pub mod Options
pub mod Results
pub mod Lists
pub mod Texts
