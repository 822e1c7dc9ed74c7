pub mod DifferenceLaws
pub mod FoldedSums
pub mod Places
