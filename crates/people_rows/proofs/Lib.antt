pub mod SharingFits
pub mod SharingRows
pub mod People
pub mod Listed
