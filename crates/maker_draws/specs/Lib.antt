pub mod Drawn
pub mod Plain
pub mod Even
