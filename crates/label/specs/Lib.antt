pub mod Label
pub mod Reading
pub mod Writing
pub mod Reader
