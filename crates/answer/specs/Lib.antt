pub mod Answers
pub mod Verdicts
pub mod Determined
