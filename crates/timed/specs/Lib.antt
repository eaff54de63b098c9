pub mod Found
pub mod Loads
