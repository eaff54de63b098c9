pub mod Fields
pub mod Sections
pub mod Code
