pub mod progress
pub mod rule_text
pub mod Fit
pub mod Worked
