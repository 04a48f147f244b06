pub mod WordLists
pub mod Computed
