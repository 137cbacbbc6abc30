pub mod Accepting
pub mod Answers
pub mod Twinning
pub mod Unlifted
pub mod Pairing
