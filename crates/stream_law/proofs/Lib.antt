pub mod Modular
pub mod Advances
pub mod Period
pub mod Streams
