pub mod Blocks
pub mod Expansion
pub mod Reading
pub mod Scanning
pub mod Theorems
