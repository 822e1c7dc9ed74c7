pub mod Totals
pub mod Tuples
pub mod Programs
