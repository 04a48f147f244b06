pub mod Lines
pub mod Texts
pub mod Searching
pub mod Worked
