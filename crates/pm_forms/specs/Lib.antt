pub mod Forms
pub mod InForm
pub mod AutoForm
pub mod Worked
