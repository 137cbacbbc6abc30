pub mod Frames
pub mod Inputs
pub mod Within
