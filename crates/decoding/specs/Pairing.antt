pub mod Grants
pub mod Granting
pub mod Pairs
pub mod Theorems
