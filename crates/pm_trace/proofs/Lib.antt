pub mod Zeros
pub mod Columns
pub mod Decimals
pub mod ShortText
pub mod StateLine
pub mod Pairs
pub mod Depths
pub mod PlaceDigits
