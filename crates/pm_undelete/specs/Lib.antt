pub mod Blocks
pub mod Codes
pub mod Texts
pub mod Found
pub mod Lines
pub mod Worked
