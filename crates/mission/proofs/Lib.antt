pub mod Effects
pub mod Driver
pub mod LabelDriver
pub mod Contracts
pub mod Mission
