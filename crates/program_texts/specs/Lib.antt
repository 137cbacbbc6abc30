pub mod Printing
pub mod Answering
pub mod Trials
pub mod RunText
