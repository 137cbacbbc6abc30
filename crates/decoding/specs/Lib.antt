pub mod Decoding
pub mod Frames
pub mod Symmetry
pub mod Trials
pub mod Pairing
