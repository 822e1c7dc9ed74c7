pub mod Law
pub mod Patterns
pub mod Joined
pub mod Digits
pub mod Number
pub mod Parsing
pub mod Many
