pub mod Widths
pub mod Columns
pub mod Made
pub mod SlotLaws
pub mod FittingLaws
pub mod SystemMade
pub mod SystemKept
