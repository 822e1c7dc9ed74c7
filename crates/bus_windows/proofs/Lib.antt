pub mod Answered
pub mod Joined
pub mod Windows
pub mod Balance
