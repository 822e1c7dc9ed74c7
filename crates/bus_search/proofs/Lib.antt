pub mod Contents
pub mod Slots
