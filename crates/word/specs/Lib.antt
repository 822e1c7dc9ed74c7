pub mod Word
pub mod Prime
pub mod Bytes
pub mod Element
