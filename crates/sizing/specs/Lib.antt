pub mod Worked
pub mod Code
pub mod Theorems
pub mod Vectors
