pub mod Words
pub mod Watch
pub mod Errors
pub mod Signed
pub mod Stack
pub mod Top
