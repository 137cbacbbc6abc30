pub mod Choosing
pub mod Limits
pub mod Theorems
