mod Askers
mod Replied
pub mod ColumnsNamed
pub mod ColumnsPairs
pub mod ColumnsPlaced
pub mod ColumnsSplit
pub mod RecordsFound
pub mod RecordsShown
pub mod RecordsTexts
pub mod RecordsTold
pub mod RecordsValued
pub mod SharesTold
mod CallerReads
mod CallerTold
mod PeopleReads
mod PeopleTold
mod RulesTold
pub mod ObjectsTold
pub mod DescribedTexts
pub mod DescribedMembers
pub mod DescribedFields
pub mod DescribedObjects
pub mod ChildrenListed
