pub mod Exported
pub mod Imported
