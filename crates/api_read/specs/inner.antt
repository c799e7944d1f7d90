pub mod Ends
pub mod Columns
pub mod RecordParts
pub mod CallerParts
pub mod People
-- Words of private functions' contracts.
pub mod DescribedLayouts
pub mod Settings
