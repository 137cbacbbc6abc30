pub mod Counting
pub mod Variables
pub mod Calls
pub mod Degrees
pub mod Judging
