pub mod Words
pub mod Filling
pub mod Signed
pub mod Patterns
