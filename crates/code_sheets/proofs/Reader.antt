pub mod Answers
pub mod Calls
pub mod Degrees
pub mod Texts
