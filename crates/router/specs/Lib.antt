pub mod Wrote
pub mod Routing
