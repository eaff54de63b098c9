pub mod Tables
pub mod Written
pub mod Work
pub mod Theorems
pub mod Rows
pub mod Vectors
pub mod Dearest
