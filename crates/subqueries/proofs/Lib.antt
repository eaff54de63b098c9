pub mod Entries
pub mod Upper
pub mod Doubling
pub mod Counting
