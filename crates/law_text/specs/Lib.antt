pub mod NotesLaws
pub mod Same
pub mod ListingLaws
pub mod SymbolLaws
pub mod Meaning
pub mod WorkedMeanings
