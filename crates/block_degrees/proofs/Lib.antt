pub mod Places
pub mod Heads
pub mod Counting
pub mod Columns
pub mod Spreading
pub mod Judging
