pub mod Ranges
pub mod Forms
