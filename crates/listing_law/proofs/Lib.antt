pub mod ProgramTests
pub mod Senses
pub mod Length
pub mod Listings
pub mod Examples
