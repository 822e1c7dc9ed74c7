pub mod Machine
pub mod Rows
pub mod Groups
pub mod Bytes
