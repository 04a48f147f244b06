pub mod AddedFiles
