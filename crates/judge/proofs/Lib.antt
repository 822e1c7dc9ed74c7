pub mod Joined
pub mod Balances
pub mod Passed
pub mod Reached
