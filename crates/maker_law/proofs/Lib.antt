pub mod Making
pub mod Cells
pub mod Frames
pub mod WellFormed
pub mod ReadBack
pub mod Seeds
