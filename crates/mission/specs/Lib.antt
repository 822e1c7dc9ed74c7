pub mod Promises
pub mod Driver
pub mod One
pub mod Two
pub mod Three
