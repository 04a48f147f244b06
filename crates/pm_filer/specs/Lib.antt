pub mod Fitting
pub mod Listing
pub mod Filed
pub mod Laws
pub mod SystemFaults
pub mod SystemSegments
pub mod SystemDisks
