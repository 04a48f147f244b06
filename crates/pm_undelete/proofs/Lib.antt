pub mod Steps
pub mod Areas
pub mod FreeBlocks
pub mod FreeAreas
pub mod Sizes
pub mod Computed
