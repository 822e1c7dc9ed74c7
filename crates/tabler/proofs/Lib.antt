pub mod Standing
pub mod Running
pub mod Steps
pub mod Ending
pub mod Determined
