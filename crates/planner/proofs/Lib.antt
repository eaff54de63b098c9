pub mod Sound
pub mod Loading
pub mod Cells
pub mod Again
pub mod Admitted
pub mod Solving
pub mod Worked
