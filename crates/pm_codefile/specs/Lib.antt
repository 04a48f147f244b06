pub mod Faults
pub mod Dictionary
pub mod Segments
pub mod Layout
pub mod ReadBack
