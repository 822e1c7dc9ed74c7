pub mod ReadBack
pub mod Rewritten
