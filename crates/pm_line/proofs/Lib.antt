pub mod Blanks
pub mod Onto
pub mod Escapes
pub mod Counts
pub mod Cuts
pub mod Named
pub mod Wholes
pub mod EndLines
