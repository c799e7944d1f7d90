-- Words of private functions' contracts.
pub mod Forms
pub mod Places
