pub mod Faults
pub mod Reading
pub mod Writing
pub mod Laying
pub mod Worked
