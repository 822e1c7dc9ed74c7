pub mod Selected
pub mod Sent
pub mod Times
pub mod Order
pub mod Ready
