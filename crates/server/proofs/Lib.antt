pub mod Kept
pub mod Judging
pub mod Stepping
pub mod Messages
pub mod Asked
pub mod Worlds
pub mod Elsewhere
pub mod Apart
pub mod Answering
pub mod Leading
pub mod Turned
pub mod Goes
pub mod Brought
pub mod Fallen
pub mod Bringing
pub mod Isolated
mod Forms
pub mod Moments
