pub mod Streams
pub mod Faults
pub mod Savings
