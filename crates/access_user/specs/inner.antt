-- Words of private functions' contracts alone.
pub mod Steps
pub mod Climbing
pub mod Judging
