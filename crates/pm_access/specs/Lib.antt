pub mod Reached
pub mod Reading
pub mod Writing
