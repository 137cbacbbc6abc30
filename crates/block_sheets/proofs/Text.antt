pub mod Expanding
pub mod Judging
pub mod Rows
pub mod Texts
