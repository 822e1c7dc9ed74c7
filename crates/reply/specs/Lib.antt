pub mod Reply
pub mod Told
