pub mod InForce
pub mod Promise
pub mod PairsAgain
pub mod Foretold
