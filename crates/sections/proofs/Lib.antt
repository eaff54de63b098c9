pub mod Gives
pub mod Ranges
pub mod Parts
pub mod Reading
pub mod Loops
pub mod Pairs
pub mod LineLaws
