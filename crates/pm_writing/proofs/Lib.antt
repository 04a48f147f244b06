pub mod Writing
pub mod Texts
pub mod Next
