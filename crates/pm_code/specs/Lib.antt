pub mod Text
pub mod Item
pub mod Program
pub mod Shown
pub mod Image
pub mod Views
pub mod Laws
pub mod Worked
