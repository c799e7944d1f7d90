pub mod SharingRules
