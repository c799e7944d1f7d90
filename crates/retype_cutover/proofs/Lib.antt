pub mod Lists
pub mod Keys
pub mod Values
pub mod Slots
pub mod Switched
pub mod Alone
pub mod Taking
