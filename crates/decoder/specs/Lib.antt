pub mod Sizes
pub mod Decode
pub mod Code
pub mod Theorems
