pub mod Storing
pub mod Lengths
