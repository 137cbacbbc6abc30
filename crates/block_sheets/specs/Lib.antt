pub mod degrees
pub mod reader
pub mod text
pub mod writer
