pub mod Integers
pub mod Arithmetic
pub mod Variables
pub mod Pointers
pub mod Values
pub mod Literals
pub mod Jumps
pub mod Worked
