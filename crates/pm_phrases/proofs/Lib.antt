pub mod Alone
pub mod Computed
pub mod Decimals
pub mod Membered
pub mod Offsets
