pub mod ShareRows
pub mod MemberNames
pub mod Unspelled
pub mod Readable
pub mod Refusing
pub mod Counting
pub mod Verdicts
pub mod Changing
