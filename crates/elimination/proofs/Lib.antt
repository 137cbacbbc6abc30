pub mod Systems
pub mod Bytes
pub mod Loops
pub mod Steps
