pub mod Least
pub mod Routes
pub mod Theorems
pub mod Vectors
