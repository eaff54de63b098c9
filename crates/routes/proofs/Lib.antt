pub mod Answers
pub mod Costs
pub mod Least
pub mod Sends
pub mod Cheaper
pub mod Taken
