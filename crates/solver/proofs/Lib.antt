pub mod Routed
pub mod Chosen
pub mod Choices
pub mod PlanBytes
pub mod Pieces
pub mod WholePlan
pub mod Answers
