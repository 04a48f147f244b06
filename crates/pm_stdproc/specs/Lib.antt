pub mod Loads
pub mod MemoryRows
pub mod UnitRows
pub mod Procedures
pub mod Worked
