pub mod Sets
pub mod Growth
pub mod Trees
pub mod Stars
pub mod Theorems
pub mod Splits
pub mod Code
