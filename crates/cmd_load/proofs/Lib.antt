mod CellByCell
mod Owned
mod Planning
pub mod Reading
mod Joining
mod RowByRow
mod Worlds
mod Drafting
