pub mod Plain
pub mod Versions
pub mod Examples
