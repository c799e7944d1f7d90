mod Asked
mod Keeping
mod Laying
mod Sure
pub mod Fresh
