pub mod Words
pub mod Roles
