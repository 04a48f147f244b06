pub mod Firsts
pub mod Views
pub mod Named
pub mod Reader
pub mod Each
pub mod Counts
