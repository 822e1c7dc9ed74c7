pub mod Texts
pub mod Counters
