pub mod Trying
pub mod RunText
