pub mod Length
pub mod Ordinary
pub mod Theorems
