pub mod Records
pub mod Pausing
pub mod Exact
pub mod Theorems
