pub mod InFormLaws
pub mod AutoLaws
