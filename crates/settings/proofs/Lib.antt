pub mod Accepted
pub mod Answers
pub mod Exposure
pub mod Factors
pub mod Floats
pub mod Magnitudes
pub mod Reversing
