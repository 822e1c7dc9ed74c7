pub mod Forms
pub mod Grid
pub mod Campaign
pub mod Possible
pub mod Report
