pub mod Listed
pub mod Counts
pub mod OneForm
pub mod Tables
pub mod Campaign
pub mod Order
pub mod Fifty
