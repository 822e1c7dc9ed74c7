pub mod Place
pub mod Reader
pub mod Pattern
pub mod Fields
