pub mod Steps
pub mod OnMachine
pub mod Accepted
pub mod Runs
