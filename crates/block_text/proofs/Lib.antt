pub mod Passes
pub mod Degrees
