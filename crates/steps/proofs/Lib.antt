pub mod Lifting
pub mod Running
pub mod Stepping
