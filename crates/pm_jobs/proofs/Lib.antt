pub mod Transfers
pub mod Pages
