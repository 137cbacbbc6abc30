pub mod Judging
pub mod Sizes
pub mod Texts
