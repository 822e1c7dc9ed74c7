pub mod Written
pub mod All
pub mod Answers
