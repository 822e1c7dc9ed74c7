pub mod Quick
pub mod Seam
pub mod Cells
