pub mod Counted
pub mod Vectors
pub mod Heaviest
