pub mod Verbs
pub mod Ended
pub mod Got
pub mod Replaced
pub mod Compared
pub mod Tabled
pub mod Undeleted
