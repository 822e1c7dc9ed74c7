pub mod CountEnds
pub mod ReportEnds
pub mod Calls
