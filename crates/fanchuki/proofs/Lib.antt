pub mod Serving
pub mod Numbers
