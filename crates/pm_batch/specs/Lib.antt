pub mod Refusals
pub mod Products
pub mod Assembly
pub mod Files
pub mod Batches
pub mod Told
