pub mod Looked
pub mod Elements
