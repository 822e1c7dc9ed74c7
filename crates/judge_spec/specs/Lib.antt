pub mod First
pub mod Judged
pub mod Refusal
pub mod Before
pub mod Shown
