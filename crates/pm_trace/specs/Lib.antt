pub mod Trace
pub mod Selected
