pub mod Listing
pub mod Shown
