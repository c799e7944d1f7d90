-- Words of private functions.
pub mod Object
pub mod Giving
pub mod Judged
pub mod Levels
pub mod Ended
pub mod Staying
pub mod Altered
pub mod Updated
