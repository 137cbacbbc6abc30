pub mod Beginning
pub mod Deciding
