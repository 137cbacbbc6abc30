pub mod Granting
pub mod Alone
pub mod Finding
pub mod Promises
