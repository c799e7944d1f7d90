pub mod Binds
pub mod Cuts
pub mod Folded
pub mod Identities
pub mod Spellings
pub mod Taken
