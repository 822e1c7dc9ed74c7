pub mod Powers
pub mod Walks
pub mod Eights
pub mod Fits
pub mod Formed
