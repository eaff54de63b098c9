pub mod Rows
pub mod LinePrices
pub mod Sent
pub mod Settled
pub mod Directed
pub mod NoDetours
