pub mod Asked
pub mod FolderWords
pub mod FormWords
pub mod Needed
pub mod Worked
pub mod ConvertWords
pub mod SearchWords
pub mod Verbs
