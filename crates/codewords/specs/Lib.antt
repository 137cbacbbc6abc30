pub mod Choosing
pub mod Encoding
pub mod Theorems
