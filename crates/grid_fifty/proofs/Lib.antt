pub mod Reached
pub mod Only
pub mod Exactly
