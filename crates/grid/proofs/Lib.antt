pub mod Words
pub mod RowForms
pub mod Answers
