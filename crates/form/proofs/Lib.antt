pub mod DataLaws
pub mod Forms
pub mod Opcodes
pub mod Part
