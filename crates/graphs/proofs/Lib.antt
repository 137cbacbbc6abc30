pub mod Alike
pub mod Lending
pub mod Meaning
pub mod Parts
pub mod Wider
