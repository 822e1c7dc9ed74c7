pub mod Unfit
pub mod Telling
