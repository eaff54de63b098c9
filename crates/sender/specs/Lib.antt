pub mod Rows
pub mod Delivering
pub mod Detours
