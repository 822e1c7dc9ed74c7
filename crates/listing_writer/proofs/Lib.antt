pub mod Pieces
pub mod Lengths
pub mod Together
pub mod Answers
