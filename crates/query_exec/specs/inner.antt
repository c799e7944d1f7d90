pub mod Gathering
pub mod Judging
pub mod Offers
pub mod Permitted
pub mod Reading
