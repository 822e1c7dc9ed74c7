pub mod Exact
pub mod Below
pub mod Found
pub mod Listed
pub mod Ranges
