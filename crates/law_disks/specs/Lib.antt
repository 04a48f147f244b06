pub mod Refusals
pub mod Volumes
pub mod Slots
pub mod CheckLaws
pub mod SystemLaws
pub mod SalvageLaws
pub mod Kinds
pub mod Fitting
