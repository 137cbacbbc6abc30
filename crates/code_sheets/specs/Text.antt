pub mod Reading
pub mod Scanning
pub mod Texts
pub mod Theorems
