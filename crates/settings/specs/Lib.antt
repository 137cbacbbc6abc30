pub mod Quantiser
pub mod Reversal
pub mod Scaling
pub mod Settings
pub mod Theorems
pub mod Trials
pub mod Values
