pub mod Listing
pub mod Program
pub mod Writing
pub mod Reading
