pub mod Combine
pub mod Machine
pub mod Allowed
pub mod Code
pub mod Theorems
