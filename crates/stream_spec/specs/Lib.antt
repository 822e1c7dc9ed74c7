pub mod Stream
pub mod Pairs
pub mod Host
