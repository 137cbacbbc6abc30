pub mod Trying
pub mod Unlifted
