pub mod Devices
pub mod Traps
pub mod Transfers
