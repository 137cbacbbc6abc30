pub mod Reader
pub mod Text
pub mod Writer
