pub mod Among
pub mod Objects
pub mod Going
pub mod Holders
pub mod Judging
pub mod Held
