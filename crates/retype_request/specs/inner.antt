pub mod Columns
pub mod Rules
pub mod States
pub mod Beginning
pub mod Cancelling
