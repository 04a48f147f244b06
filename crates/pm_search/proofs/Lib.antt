pub mod ContainsLaws
pub mod SearchLaws
pub mod LineEnds
pub mod Computed
