pub mod Counting
pub mod Ways
