pub mod Walks
pub mod FindLaws
pub mod RouterParts
pub mod WayLaws
pub mod Cuts
pub mod RouteLaws
pub mod Plain
pub mod Characters
pub mod Slashes
pub mod Versions
pub mod Refusing
pub mod Parts
pub mod Queries
pub mod Finding
pub mod Tables
mod Responses
mod Verdicts
pub mod Ways
mod Rights
mod Changing
