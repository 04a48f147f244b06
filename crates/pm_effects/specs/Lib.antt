pub mod Effects
pub mod History
