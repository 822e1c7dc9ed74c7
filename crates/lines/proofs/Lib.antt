pub mod Placing
pub mod Putting
pub mod Numbers
pub mod Readable
