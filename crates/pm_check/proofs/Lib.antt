pub mod Steps
pub mod Names
pub mod SavingSteps
pub mod Saves
pub mod ContentLaws
pub mod HeadedLaws
pub mod OrderLaws
