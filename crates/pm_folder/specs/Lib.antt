pub mod Names
pub mod Contents
pub mod Folder
pub mod Worked
