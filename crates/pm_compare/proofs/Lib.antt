pub mod SameNames
pub mod Taking
pub mod Differences
pub mod Pairing
pub mod Computed
