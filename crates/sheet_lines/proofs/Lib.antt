pub mod Checks
pub mod Counting
pub mod Passing
pub mod Ways
