pub mod EightBytes
