pub mod Words
pub mod Triples
pub mod Places
pub mod Ends
