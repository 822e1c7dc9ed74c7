pub mod Isa
pub mod OldMachine
pub mod OldStep
pub mod Encoding
