pub mod Several
pub mod Fields
pub mod Sets
pub mod Combinations
pub mod Strings
pub mod Comparisons
pub mod Laws
pub mod Worked
