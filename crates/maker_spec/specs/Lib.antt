pub mod Made
pub mod Bytes
