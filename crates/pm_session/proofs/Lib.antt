pub mod WordLaws
pub mod CommandLaws
pub mod SessionLaws
