pub mod Entries
pub mod Graphs
pub mod Order
pub mod Passes
pub mod Sheets
pub mod Wider
