pub mod Memory
pub mod Joined
pub mod Numbered
