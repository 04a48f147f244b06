pub mod Found
pub mod Computed
