pub mod Figures
pub mod Board
pub mod Laying
