pub mod Listed
pub mod Fields
pub mod Strings
pub mod Computed
