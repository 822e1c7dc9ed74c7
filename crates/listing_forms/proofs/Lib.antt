pub mod Forms
pub mod Programs
