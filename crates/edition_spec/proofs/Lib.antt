pub mod Known
pub mod SameStep
pub mod Telling
pub mod Program
pub mod Same
pub mod Four
