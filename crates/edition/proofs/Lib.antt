pub mod Ends
pub mod Filled
pub mod Part
