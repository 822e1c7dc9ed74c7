pub mod Senders
pub mod Window
