pub mod Reading
pub mod Storing
pub mod Theorems
pub mod Trials
