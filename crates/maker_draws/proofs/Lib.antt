pub mod Again
pub mod Drawing
pub mod Cells
pub mod Versions
pub mod Counting
pub mod Even
pub mod Examples
