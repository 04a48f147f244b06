pub mod Pieces
pub mod Feeds
pub mod Listed
pub mod Placed
pub mod Plain
pub mod Imported
pub mod Worked
