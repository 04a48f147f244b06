pub mod Rows
pub mod Tabs
pub mod Json
pub mod Worked
