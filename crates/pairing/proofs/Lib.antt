pub mod Granting
pub mod Halts
pub mod Deciding
