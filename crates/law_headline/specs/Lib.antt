pub mod Actions
pub mod Put
