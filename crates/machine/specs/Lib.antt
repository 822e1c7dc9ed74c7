pub mod Machine
pub mod Extension
pub mod Step
pub mod Run
