pub mod Choice
pub mod Limits
pub mod Prices
pub mod Charges
pub mod Linked
pub mod Indexed
