pub mod Views
pub mod Fronts
