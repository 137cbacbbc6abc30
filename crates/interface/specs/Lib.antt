pub mod Blocks
pub mod Encoding
pub mod Packing
pub mod Runs
pub mod Theorems
pub mod Pairs
