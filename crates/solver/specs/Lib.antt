pub mod Writing
pub mod Solution
