pub mod sharing
pub mod Roster
