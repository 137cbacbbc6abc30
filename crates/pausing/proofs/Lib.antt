pub mod Pausing
pub mod Carrying
pub mod Lending
pub mod Twinning
