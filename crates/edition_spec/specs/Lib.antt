pub mod Translatable
pub mod Translation
pub mod Translated
pub mod Told
pub mod Same
