pub mod Cells
pub mod Trials
pub mod Filling
