pub mod Conflicts
pub mod Locks
