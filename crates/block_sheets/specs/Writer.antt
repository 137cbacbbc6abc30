pub mod Judging
pub mod Theorems
pub mod Writing
