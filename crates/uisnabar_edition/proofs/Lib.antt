pub mod CallEnds
pub mod Calls
