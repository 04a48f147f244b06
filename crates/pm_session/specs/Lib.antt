pub mod Words
pub mod Commands
pub mod Orders
pub mod Endings
pub mod Texts
pub mod Views
pub mod Answers
pub mod Sessions
