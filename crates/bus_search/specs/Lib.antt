pub mod Marks
pub mod Slots
