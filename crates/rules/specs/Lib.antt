pub mod Given
pub mod Execution
pub mod Extension
pub mod Lookups
pub mod Bus
pub mod Sizes
pub mod Satisfies
