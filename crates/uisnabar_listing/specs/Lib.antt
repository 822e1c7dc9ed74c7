pub mod ListCall
pub mod ReadListingCall
