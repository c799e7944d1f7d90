pub mod Written
pub mod Bodies
mod Changing
mod Beginning
