pub mod Told
pub mod Jobs
