pub mod CountCall
pub mod ReportCall
pub mod Called
