pub mod RangeCheck
pub mod Finds
pub mod Finder
