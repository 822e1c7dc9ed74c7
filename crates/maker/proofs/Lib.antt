pub mod Parts
pub mod Eight
pub mod Filling
pub mod Answers
pub mod Determined
