pub mod Room
pub mod Code
pub mod Vectors
pub mod Heaviest
