pub mod Systems
pub mod Rows
pub mod Eliminating
