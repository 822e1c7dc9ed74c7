pub mod Ends
pub mod Filling
pub mod Answered
