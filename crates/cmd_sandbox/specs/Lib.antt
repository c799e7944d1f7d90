pub mod Making
pub mod Own
