pub mod Seen
pub mod Serving
pub mod Run
pub mod Falling
pub mod Promise
