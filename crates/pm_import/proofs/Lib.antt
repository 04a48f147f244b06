pub mod Computed
pub mod Cutting
pub mod Taken
pub mod Named
