pub mod CallerJson
pub mod DescribeJson
pub mod Parts
pub mod PeopleJson
pub mod Reads
pub mod RecordJson
pub mod SettingsJson
pub mod Told
