pub mod Spreading
pub mod Found
pub mod Edges
pub mod Meaning
pub mod Choosing
pub mod Reaching
pub mod Looping
