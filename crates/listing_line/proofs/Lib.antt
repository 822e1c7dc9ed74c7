pub mod Fields
pub mod Parts
pub mod Lines
pub mod Listable
pub mod ByFields
