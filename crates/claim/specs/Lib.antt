pub mod Lists
pub mod Claim
pub mod Foretold
