pub mod LeastFigures
pub mod Signed
pub mod Given
pub mod Here
pub mod LaidSteps
pub mod LaidBoard
