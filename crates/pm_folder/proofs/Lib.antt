pub mod Computed
pub mod Counting
pub mod LineEnds
