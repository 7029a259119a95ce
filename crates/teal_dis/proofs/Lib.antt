pub mod Labelling
pub mod LineNumbers
pub mod Listings
pub mod Targets
pub mod Rows
pub mod Gathered
