-- what a message and a reply are
pub mod Framing
pub mod Item
pub mod Answer
pub mod Reads
pub mod Reply
-- what inner functions answer
pub mod Found
pub mod Parts
pub mod Steps
