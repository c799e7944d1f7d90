pub mod Names
pub mod NameForms
pub mod Bodies
pub mod Called
mod Stepped
mod Least
mod Agree
pub mod Sorted
mod Before
pub mod Computing
mod Within
pub mod Requesting
mod Alone
mod Elements
mod Places
mod Administering
mod Rising
mod JobUsers
mod NewSound
mod Switching
