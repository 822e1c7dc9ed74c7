pub mod Digit
pub mod Field
