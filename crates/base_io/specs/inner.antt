-- Words that only contracts of private functions and private representations reach, and laws that nobody must read.
pub mod DoorLaws
pub mod Places
pub mod Schedule
