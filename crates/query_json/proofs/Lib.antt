mod Pieces
mod Within
pub mod Found
mod Lists
