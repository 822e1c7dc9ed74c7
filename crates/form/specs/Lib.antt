pub mod Data
pub mod Instruction
pub mod Form
pub mod Opcodes
